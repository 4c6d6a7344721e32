-- The summary blocks of a batch: each target that it takes is given its own, and no other segment is given one.
use Rattle.std.proofs.Common.{◌≡◌, ℕ, ◌+◌, ◌<◌, ◌≤◌, List, [], ◌++◌, length, get_or, All, Some, None, sym, ap, subst, ◌∙◌, arith}
use Rattle.std.specs.Prelude.{drop}
use Rattle.std.proofs.lemmas.List.{map-append, length-map, length-take-le, length-drop, get_or-take, get_or-drop, get_or_default}
use Rattle.std.proofs.lemmas.List.Elements.{All-append, All-from_get_or}
use Rattle.f2_bytes.specs.Bytes.{Block, quotient_up}
use Rattle.f2_bytes.specs.Summary.{Summary}
use Rattle.f2_change.specs.Change.{given}
use Rattle.f2_commit.specs.Shifting.{HasSums, AreSums}
use Rattle.f2_commit.proofs.ShiftGiven.{keys, given_never, given_only, given_before, given_behind}

module _ (targets : List ℕ) (first_sums second_sums : List Summary) (first_kind second_kind : ℕ)
    (different : (i j : ℕ) → i < length targets → j < length targets → get_or targets i 0 ≡ get_or targets j 0 → i ≡ j)
    (enough : quotient_up (length first_sums) 512 + quotient_up (length second_sums) 512 ≤ length targets) where
  abbrev d : ℕ
  d = quotient_up (length first_sums) 512

  abbrev e : ℕ
  e = quotient_up (length second_sums) 512

  abbrev rest : List ℕ
  rest = drop (quotient_up (length first_sums) 512) targets

  rest_long : e ≤ length rest
  rest_long = let long = length-drop d targets in omega (arith, long, enough)

  module _ (xs ys : List (ℕ × Block)) (first : AreSums targets first_kind first_sums xs) (second : AreSums rest second_kind second_sums ys) where
    first_long : length xs ≡ d
    first_long = sym (length-map xs (λ (w : ℕ × Block). w.0)) ∙ ap length first.segments ∙ length-take-le d targets (omega (arith, enough))

    second_long : length ys ≡ e
    second_long = sym (length-map ys (λ (w : ℕ × Block). w.0)) ∙ ap length second.segments ∙ length-take-le e rest rest_long

    pub first_key : (i : ℕ) → i < d → get_or (keys xs) i 0 ≡ get_or targets i 0
    first_key i low = ap (λ ks. get_or ks i 0) first.segments ∙ get_or-take d targets i 0 low

    pub second_key : (j : ℕ) → j < e → get_or (keys ys) j 0 ≡ get_or targets (d + j) 0
    second_key j low = ap (λ ks. get_or ks j 0) second.segments ∙ get_or-take e rest j 0 low ∙ get_or-drop d targets j 0

    first_block : (i : ℕ) (w : ℕ × Block) → i < d → HasSums first_kind first_sums i (get_or xs i w).1
    first_block i w low =
        let inside : i < length xs = let long = first_long in omega (arith, low, long) in
        first.blocks i (get_or xs i w) inside (get_or_default xs i (get_or xs i w) w inside)

    second_block : (j : ℕ) (w : ℕ × Block) → j < e → HasSums second_kind second_sums j (get_or ys j w).1
    second_block j w low =
        let inside : j < length ys = let long = second_long in omega (arith, low, long) in
        second.blocks j (get_or ys j w) inside (get_or_default ys j (get_or ys j w) w inside)

    pub first_sum : (i : ℕ) → i < d → (b : Block) × (given (xs ++ ys) (get_or targets i 0) ≡ Some b) × HasSums first_kind first_sums i b
    first_sum i low = (
      (get_or xs i (0, [])).1,
      given_before xs ys (get_or targets i 0) none ∙ given_only xs (get_or targets i 0) i (0, []) (omega (arith, low, first_long)) (first_key i low) (λ j inside at.
          let low_j : j < d = omega (arith, inside, first_long) in
          different j i (omega (arith, low_j, enough)) (omega (arith, low, enough)) (sym (first_key j low_j) ∙ at)),
      first_block i (0, []) low,
    )
      where
        none : given ys (get_or targets i 0) ≡ None
        none = given_never ys (get_or targets i 0) (λ j inside at.
            let low_j : j < e = omega (arith, inside, second_long) in
            let same : d + j ≡ i = different (d + j) i (omega (arith, low_j, enough)) (omega (arith, low, enough)) (sym (second_key j low_j) ∙ at) in
            omega (arith, same, low))

    pub second_sum : (j : ℕ) → j < e → (b : Block) × (given (xs ++ ys) (get_or rest j 0) ≡ Some b) × HasSums second_kind second_sums j b
    second_sum j low = (
      (get_or ys j (0, [])).1,
      given_behind xs ys (get_or rest j 0) (get_or ys j (0, [])).1
          (given_only ys (get_or rest j 0) j (0, []) (omega (arith, low, second_long)) (second_key j low ∙ sym (get_or-drop d targets j 0)) (λ i inside at.
          let low_i : i < e = omega (arith, inside, second_long) in
          let same : d + i ≡ d + j = different (d + i) (d + j) (omega (arith, low_i, enough)) (omega (arith, low, enough)) (sym (second_key i low_i) ∙ at ∙ get_or-drop d targets j 0) in
          omega (arith, same))),
      second_block j (0, []) low,
    )

    -- what no target is
    pub no_sum : (segment : ℕ) → ((i : ℕ) → i < length targets → get_or targets i 0 ≡ segment → ⊥) → given (xs ++ ys) segment ≡ None
    no_sum segment other =
        given_before xs ys segment (given_never ys segment (λ j inside at.
        let low_j : j < e = omega (arith, inside, second_long) in
        other (d + j) (omega (arith, low_j, enough)) (sym (second_key j low_j) ∙ at)))
        ∙ given_never xs segment (λ i inside at.
        let low_i : i < d = omega (arith, inside, first_long) in
        other i (omega (arith, low_i, enough)) (sym (first_key i low_i) ∙ at))

    -- what holds of each target holds of each segment with a block
    pub sum_keys : (P : ℕ → Type 0) → ((i : ℕ) → i < length targets → P (get_or targets i 0)) → All P (keys (xs ++ ys))
    sum_keys P each =
        subst (All P) (sym (map-append (λ (w : ℕ × Block). w.0) xs ys))
        (All-append P (keys xs) (keys ys)
        (All-from_get_or P (keys xs) 0 (λ i inside.
        let low : i < d = subst (λ m. i < m) (length-map xs (λ (w : ℕ × Block). w.0) ∙ first_long) inside in
        subst P (sym (first_key i low)) (each i (omega (arith, low, enough)))))
        (All-from_get_or P (keys ys) 0 (λ j inside.
        let low : j < e = subst (λ m. j < m) (length-map ys (λ (w : ℕ × Block). w.0) ∙ second_long) inside in
        subst P (sym (second_key j low)) (each (d + j) (omega (arith, low, enough))))))
