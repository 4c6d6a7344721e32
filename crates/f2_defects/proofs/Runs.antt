-- The defects of comparisons with values that go up by one.
use Rattle.std.proofs.Common.{◌≡◌, ℕ, zero, suc, ◌+◌, ◌-◌, ◌^◌, ◌<◌, ◌≤◌, List, [], ◌∷◌, ◌++◌, length, take, min, Option, refl, sym, ap, ◌∙◌, arith, ⊎_elim, ◌⊎◌, inl, inr, append_assoc, subst, add-zero, zero-add}
use Rattle.std.specs.Prelude.{filter_map}
use Rattle.std.specs.List.{cons_option, range_with_len}
use Rattle.std.proofs.lemmas.Bool.{cases_eq, cases_lt, eq-eqb, ne_eqb}
use Rattle.std.proofs.lemmas.List.Elements.{filter_map-append}
use Rattle.f2_bytes.specs.Check.{Defect, defect_of, same}
use Rattle.f2_defects.specs.Collected.{Collection, Collects, Compares, Runs, defects_of, run_comparison, run_defects, most_listed}
use Rattle.f2_defects.proofs.Collecting.{length-kept, take-full, collects_both}

-- ---- pieces of a run

pub range-append : (a n m : ℕ) → range_with_len a (n + m) ≡ range_with_len a n ++ range_with_len (a + n) m
range-append a zero m = (λ i. range_with_len (sym (add-zero a) i) (zero-add m i))
range-append a (suc n) m =
    ap (range_with_len a) (let e : suc n + m ≡ suc (n + m) = omega arith in e)
    ∙ ap (λ l. a ∷ l) (range-append (a + 1) n m ∙ ap (λ k. range_with_len (a + 1) n ++ range_with_len k m) (omega arith))

module _ (part a from found wanted : ℕ) where
  defect_at : ℕ → Option Defect
  defect_at b = defect_of part a b (run_comparison from found wanted b)

  pub run-append : (n m : ℕ) → run_defects part a from (n + m) found wanted ≡ run_defects part a from n found wanted ++ filter_map (λ b. defect_of part a b (run_comparison from found wanted b)) (range_with_len (from + n) m)
  unfolding defect_at
  run-append n m =
      ap (filter_map defect_at) (range-append from n m)
      ∙ filter_map-append defect_at (range_with_len from n) (range_with_len (from + n) m)

  -- the rest of a run is a run
  pub run-rest : (n m : ℕ) → filter_map (λ b. defect_of part a b (run_comparison from found wanted b)) (range_with_len (from + n) m) ≡ run_defects part a (from + n) m found (wanted + n)
  run-rest n m =
      ap (λ (f : ℕ → ℕ). filter_map (λ b. defect_of part a b (same found (f b))) (range_with_len (from + n) m))
      (λ i b. (let e : wanted + b - from ≡ wanted + n + b - (from + n) = omega arith in e) i)

-- ---- how many fail

one_more : (part a b found w : ℕ) (xs : List Defect) → (found ≡ w → ⊥) → length (cons_option (defect_of part a b (same found w)) xs) ≡ suc (length xs)
one_more part a b found w xs differ = rw (ne_eqb found w differ) refl

none_more : (part a b found w : ℕ) (xs : List Defect) → found ≡ w → length (cons_option (defect_of part a b (same found w)) xs) ≡ length xs
none_more part a b found w xs agree = rw (eq-eqb found w agree) refl

module _ (part a found : ℕ) where
  run-step : (from n wanted : ℕ) → run_defects part a from (suc n) found wanted ≡ cons_option (defect_of part a from (same found wanted)) (run_defects part a (from + 1) n found (wanted + 1))
  run-step from n wanted =
      (λ i. cons_option (defect_of part a from (same found ((let e : wanted + from - from ≡ wanted = omega arith in e) i))) (run-rest part a from found wanted 1 n i))

  pub length-run_apart : (from n wanted : ℕ) → (found < wanted) ⊎ (wanted + n ≤ found) → length (run_defects part a from n found wanted) ≡ n
  length-run_apart from zero wanted h = refl
  length-run_apart from (suc n) wanted h =
      let ne : found ≡ wanted → ⊥ = ⊎_elim (λ low e. omega (arith, low, e)) (λ high e. omega (arith, high, e)) h in
      ap length (run-step from n wanted)
      ∙ one_more part a from found wanted (run_defects part a (from + 1) n found (wanted + 1)) ne
      ∙ ap suc (length-run_apart (from + 1) n (wanted + 1) (⊎_elim (λ low. inl (omega (arith, low))) (λ high. inr (omega (arith, high))) h))

  pub length-run_within : (from n wanted : ℕ) → wanted ≤ found → found < wanted + n → length (run_defects part a from n found wanted) + 1 ≡ n
  length-run_within from zero wanted low high = absurd (omega (arith, low, high))
  length-run_within from (suc n) wanted low high =
      ⊎_elim (λ here.
      let step = ap length (run-step from n wanted) ∙ none_more part a from found wanted (run_defects part a (from + 1) n found (wanted + 1)) here in
      let rest = length-run_apart (from + 1) n (wanted + 1) (inl (omega (arith, here))) in
      omega (arith, step, rest))
      (λ past.
      let step = ap length (run-step from n wanted) ∙ one_more part a from found wanted (run_defects part a (from + 1) n found (wanted + 1)) past in
      let rest = length-run_within (from + 1) n (wanted + 1) (omega (arith, low, past)) (omega (arith, high)) in
      omega (arith, step, rest))
      (cases_eq found wanted)

-- ---- what is collected of a run

-- one comparison more
pub runs_more : (old mid new : Collection) (a from b found wanted : ℕ) → from ≤ b → mid.part ≡ old.part
    → Runs old mid a from (b - from) found wanted → Compares mid new a b (same found (wanted + (b - from))) → Runs old new a from (b + 1 - from) found wanted
runs_more old mid new a from b found wanted order part before one = λ defects of.
    let n = b - from in
    let first = run_defects old.part a from n found wanted in
    let next : n + 1 ≡ b + 1 - from = omega (arith, order) in
    let at : b ≡ from + n = omega (arith, order) in
    let value : wanted + (b - from) ≡ wanted + (from + n) - from = omega (arith, order) in
    let last : defects_of mid.part a b (same found (wanted + (b - from))) ≡ defects_of old.part a (from + n) (run_comparison from found wanted (from + n)) =
    (λ i. cons_option (defect_of (part i) a (at i) (same found (value i))) []) in
    let longer : first ++ defects_of mid.part a b (same found (wanted + (b - from))) ≡ run_defects old.part a from (b + 1 - from) found wanted =
    ap (λ l. first ++ l) last ∙ sym (run-append old.part a from found wanted n 1) ∙ ap (λ k. run_defects old.part a from k found wanted) next in
    subst (Collects new)
    (append_assoc defects first (defects_of mid.part a b (same found (wanted + (b - from)))) ∙ ap (λ l. defects ++ l) longer)
    (one (defects ++ first) (before defects of))

-- the rest of a run, where the list is full
pub runs_full : (old mid new : Collection) (a from n m found wanted : ℕ) → most_listed ≤ length mid.kept → new.kept ≡ mid.kept
    → new.count ≡ min (mid.count + length (run_defects old.part a (from + n) m found (wanted + n))) (2 ^ 64 - 1)
    → Runs old mid a from n found wanted → Runs old new a from (n + m) found wanted
runs_full old mid new a from n m found wanted full kept count before = λ defects of.
    let first = run_defects old.part a from n found wanted in
    let rest = run_defects old.part a (from + n) m found (wanted + n) in
    let listed = before defects of in
    let few = length-kept mid (defects ++ first) listed in
    let both = collects_both mid (record { part = 0; kept = take most_listed rest; count = min (length rest) (2 ^ 64 - 1) }) new (defects ++ first) rest listed
    (record { kept = refl; count = refl })
    (kept ∙ sym (take-full most_listed mid.kept (take most_listed rest) (omega (arith, few, full))))
    (omega (arith, count)) in
    let whole : first ++ rest ≡ run_defects old.part a from (n + m) found wanted =
    ap (λ l. first ++ l) (sym (run-rest old.part a from found wanted n m)) ∙ sym (run-append old.part a from found wanted n m) in
    subst (Collects new) (append_assoc defects first rest ∙ ap (λ l. defects ++ l) whole) both

-- the same, where the list is full or nothing is left
pub runs_rest : (old mid new : Collection) (a from to b found wanted : ℕ) → from ≤ b → b ≤ to → (b < to → most_listed ≤ length mid.kept) → new.kept ≡ mid.kept
    → new.count ≡ min (mid.count + length (run_defects old.part a b (to - b) found (wanted + (b - from)))) (2 ^ 64 - 1)
    → Runs old mid a from (b - from) found wanted → Runs old new a from (to - from) found wanted
runs_rest old mid new a from to b found wanted low high full kept count before =
    ⊎_elim (λ left.
    let at : b ≡ from + (b - from) = omega (arith, low) in
    let whole : (b - from) + (to - b) ≡ to - from = omega (arith, low, high) in
    let more : new.count ≡ min (mid.count + length (run_defects old.part a (from + (b - from)) (to - b) found (wanted + (b - from)))) (2 ^ 64 - 1) =
    count ∙ ap (λ k. min (mid.count + length (run_defects old.part a k (to - b) found (wanted + (b - from)))) (2 ^ 64 - 1)) at in
    subst (λ k. Runs old new a from k found wanted) whole (runs_full old mid new a from (b - from) (to - b) found wanted (full left) kept more before))
    (λ past defects of.
    let none : to - b ≡ 0 = omega (arith, past) in
    let same_length : b - from ≡ to - from = omega (arith, past, high) in
    let empty : length (run_defects old.part a b (to - b) found (wanted + (b - from))) ≡ 0 = ap (λ k. length (run_defects old.part a b k found (wanted + (b - from)))) none in
    let listed = before defects of in
    let c = listed.count in
    subst (λ k. Collects new (defects ++ run_defects old.part a from k found wanted)) same_length
    (record { kept = kept ∙ listed.kept; count = omega (arith, count, empty, c) }))
    (cases_lt b to)
