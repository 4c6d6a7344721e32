-- Steps up: they join, they come back, and they come back within as many steps as there are numbers.
use Rattle.std.proofs.Common.{◌≡◌, ℕ, zero, suc, ◌+◌, ◌-◌, ◌*◌, ◌<◌, ◌≤◌, Bool, true, false, ◌==◌, List, Option, Some, None, get_or, refl, sym, ap, ◌∙◌, inl, inr, arith, add-zero, add-suc, add-one}
use Rattle.std.specs.Prelude.{option_and_then, unwrap_or}
use Rattle.std.specs.Option.{option_map_or}
use Rattle.std.proofs.lemmas.Bool.{eqb-true, eq-eqb, ne_eqb, both_ways, cases_lt}
use Rattle.std.proofs.Math.Nat.{suc-mul}
use Rattle.f2_bytes.proofs.Below.{found_below, some_below}
use Rattle.f2_roll.proofs.Pigeons.{pigeons}
use Rattle.f2_items.specs.Ancestors.{steps, is_own_ancestor, Leads, LeadsUp, Ends, IsClosed, IsMarked}

same_some : {i j : ℕ} → Some i ≡ Some j → i ≡ j
same_some e = cc

module _ (parent : ℕ → Option ℕ) where
  pub steps-zero : (i : ℕ) → steps parent 0 i ≡ Some i
  unfolding steps
  steps-zero i = refl

  pub steps-one : (n i j : ℕ) → steps parent n i ≡ Some j → steps parent (n + 1) i ≡ parent j
  unfolding steps
  steps-one n i j h = rw add-one (ap (option_and_then parent) h)

  -- the step before
  pub step_before : (n i j : ℕ) → steps parent (n + 1) i ≡ Some j → (m : ℕ) × (steps parent n i ≡ Some m) × (parent m ≡ Some j)
  unfolding steps
  step_before n i j h = let all : option_and_then parent (steps parent n i) ≡ Some j = rw add-one at h in go (steps parent n i) refl all
    where
      go : (o : Option ℕ) → steps parent n i ≡ o → option_and_then parent o ≡ Some j → (m : ℕ) × (steps parent n i ≡ Some m) × (parent m ≡ Some j)
      go None e all = absurd (cc all)
      go (Some m) e all = (m, e, all)

  pub steps-add : (a b i j : ℕ) → steps parent a i ≡ Some j → steps parent (a + b) i ≡ steps parent b j
  unfolding steps
  steps-add a zero i j h = rw add-zero h
  steps-add a (suc b) i j h = rw add-suc (ap (option_and_then parent) (steps-add a b i j h))

  -- what is reached was reached by way of each step
  pub on_the_way : (a b i j : ℕ) → steps parent (a + b) i ≡ Some j → (m : ℕ) × (steps parent a i ≡ Some m)
  on_the_way a zero i j h = let first : steps parent a i ≡ Some j = rw add-zero at h in (j, first)
  on_the_way a (suc b) i j h =
      let longer : steps parent (a + b + 1) i ≡ Some j = ap (λ n. steps parent n i) (omega arith) ∙ h in
      let before = step_before (a + b) i j longer in
      on_the_way a b i before.0 before.1

  -- round a cycle several times
  pub rounds : (n i : ℕ) → steps parent (n + 1) i ≡ Some i → (m : ℕ) → steps parent (m * (n + 1)) i ≡ Some i
  rounds n i h zero = ap (λ k. steps parent k i) (omega arith) ∙ steps-zero i
  rounds n i h (suc m) = ap (λ k. steps parent k i) (omega (arith, suc-mul m (n + 1))) ∙ steps-add (n + 1) (m * (n + 1)) i i h ∙ rounds n i h m

  -- from a number of a cycle there is a way back
  pub back : (i j : ℕ) → LeadsUp parent i i → Leads parent i j → Leads parent j i
  back i j own there =
      let n : ℕ = own.0 in
      let k : ℕ = there.0 in
      (k * n, sym (steps-add k (k * n) i j there.1) ∙ ap (λ m. steps parent m i) (omega arith) ∙ rounds n i own.1 k)

  pub own_along : (i j : ℕ) → LeadsUp parent i i → Leads parent i j → LeadsUp parent j j
  own_along i j own there =
      let r = back i j own there in (
        r.0 + own.0 + there.0,
        ap (λ m. steps parent m j) (omega arith) ∙ steps-add r.0 (own.0 + 1 + there.0) j i r.1 ∙ steps-add (own.0 + 1) there.0 i i own.1 ∙ there.1,
      )

  pub never_ends : (i : ℕ) → LeadsUp parent i i → Ends parent i → ⊥
  never_ends i own end =
      let last : ℕ = end.1 in
      let again = own_along i last own (end.0, end.2) in
      let longer : steps parent (1 + again.0) last ≡ Some last = ap (λ m. steps parent m last) (omega arith) ∙ again.1 in
      let first = on_the_way 1 again.0 last last longer in
      let none : steps parent (0 + 1) last ≡ None = steps-one 0 last last (steps-zero last) ∙ end.3 in
      let same : Some first.0 ≡ None = sym first.1 ∙ ap (λ m. steps parent m last) (omega arith) ∙ none in
      cc

  -- closed marks hold what a marked number leads to
  pub closed_along : (marks : List Bool) → IsClosed parent marks → (i : ℕ) → IsMarked marks i → (k j : ℕ) → steps parent k i ≡ Some j → IsMarked marks j
  closed_along marks closed i h zero j e =
      let at : i ≡ j = same_some (sym (steps-zero i) ∙ e) in
      ap (λ n. get_or marks n false) (sym at) ∙ h
  closed_along marks closed i h (suc k) j e =
      let longer : steps parent (k + 1) i ≡ Some j = ap (λ n. steps parent n i) (omega arith) ∙ e in
      let before = step_before k i j longer in
      closed before.0 j (closed_along marks closed i h k before.0 before.1) before.2

  -- ---- within the limit

  pub leads_from_test : (limit i : ℕ) → is_own_ancestor parent limit i ≡ true → LeadsUp parent i i
  unfolding is_own_ancestor
  leads_from_test limit i h = let found = found_below test limit h in go (steps parent (found.0 + 1) i) found.0 refl found.2
    where
      test : ℕ → Bool
      test n = option_map_or (λ up. up == i) (steps parent (n + 1) i) false

      go : (o : Option ℕ) (n : ℕ) → steps parent (n + 1) i ≡ o → option_map_or (λ up. up == i) o false ≡ true → LeadsUp parent i i
      go None n e t = absurd (cc t)
      go (Some up) n e t = (n, e ∙ ap Some (eqb-true up i t))

  test_from_steps : (limit n i : ℕ) → n < limit → steps parent (n + 1) i ≡ Some i → is_own_ancestor parent limit i ≡ true
  unfolding is_own_ancestor
  test_from_steps limit n i below h =
      some_below (λ m. option_map_or (λ up. up == i) (steps parent (m + 1) i) false) limit n below
      (ap (λ o. option_map_or (λ up. up == i) o false) h ∙ eq-eqb i i refl)

  -- two numbers of equal height on a cycle make a shorter one
  meets : (n i a b : ℕ) → steps parent (n + 1) i ≡ Some i → a < b → b ≤ n → steps parent a i ≡ steps parent b i → steps parent (b - a) i ≡ Some i
  meets n i a b h less few e =
      let whole : steps parent (a + (n + 1 - a)) i ≡ Some i = ap (λ m. steps parent m i) (omega (arith, less, few)) ∙ h in
      let at = on_the_way a (n + 1 - a) i i whole in
      let up : steps parent (n + 1 - a) at.0 ≡ Some i = sym (steps-add a (n + 1 - a) i at.0 at.1) ∙ whole in
      let other : steps parent b i ≡ Some at.0 = sym e ∙ at.1 in
      sym (steps-add (n + 1) (b - a) i i h) ∙ ap (λ m. steps parent m i) (omega (arith, less, few)) ∙ steps-add b (n + 1 - a) i at.0 other ∙ up

  -- steps stay below a limit that the parents stay below
  pub steps-below : (limit i : ℕ) → ((k up : ℕ) → k < limit → parent k ≡ Some up → up < limit) → i < limit → (k up : ℕ) → steps parent k i ≡ Some up → up < limit
  steps-below limit i low inside zero up e = let at : i ≡ up = same_some (sym (steps-zero i) ∙ e) in omega (arith, at, inside)
  steps-below limit i low inside (suc k) up e =
      let longer : steps parent (k + 1) i ≡ Some up = ap (λ m. steps parent m i) (omega arith) ∙ e in
      let before = step_before k i up longer in
      low before.0 up (steps-below limit i low inside k before.0 before.1) before.2

  pub test_from_leads : (limit i : ℕ) → ((k up : ℕ) → k < limit → parent k ≡ Some up → up < limit) → i < limit → LeadsUp parent i i → is_own_ancestor parent limit i ≡ true
  test_from_leads limit i low inside own = go (is_own_ancestor parent limit i) refl
    where
      n : ℕ
      n = own.0

      place : ℕ → ℕ
      place k = unwrap_or (steps parent k i) 0

      at : (k : ℕ) → k ≤ n → (m : ℕ) × (steps parent k i ≡ Some m) × (place k ≡ m)
      at k few =
          let whole : steps parent (k + (n + 1 - k)) i ≡ Some i = ap (λ m. steps parent m i) (omega (arith, few)) ∙ own.1 in
          let there = on_the_way k (n + 1 - k) i i whole in
          (there.0, there.1, ap (λ o. unwrap_or o 0) there.1)

      go : (b : Bool) → is_own_ancestor parent limit i ≡ b → is_own_ancestor parent limit i ≡ true
      go true e = e
      go false e = absurd (pigeons place limit lows apart)
        where
          long : limit ≤ n
          long = elim (cases_lt n limit) [ inl h ↦ absurd (both_ways _ e (test_from_steps limit n i h own.1)) | inr h ↦ h ]

          lows : (k : ℕ) → k < limit + 1 → place k < limit
          lows k h = let m = at k (omega (arith, h, long)) in let b = steps-below limit i low inside k m.0 m.1 in omega (arith, b, m.2)

          apart : (a b : ℕ) → a < b → b < limit + 1 → (place a == place b) ≡ false
          apart a b less h = ne_eqb (place a) (place b) (λ same.
              let x = at a (omega (arith, less, h, long)) in
              let y = at b (omega (arith, h, long)) in
              let equal : steps parent a i ≡ steps parent b i = x.1 ∙ ap Some (sym x.2 ∙ same ∙ y.2) ∙ sym y.1 in
              let short : steps parent (b - a) i ≡ Some i = meets n i a b own.1 less (omega (arith, h, long)) equal in
              let again : steps parent ((b - a - 1) + 1) i ≡ Some i = ap (λ m. steps parent m i) (omega (arith, less)) ∙ short in
              both_ways _ e (test_from_steps limit (b - a - 1) i (omega (arith, less, h)) again))
