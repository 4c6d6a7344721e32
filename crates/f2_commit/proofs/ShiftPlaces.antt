-- The blocks of a batch at their new places: each place is given its own block, and no other place is given one.
use Rattle.std.proofs.Common.{◌≡◌, ℕ, ◌+◌, ◌*◌, ◌<◌, ◌≤◌, List, ◌++◌, false, ◌==◌, ◌||◌, map, length, get_or, Some, None, sym, ap, ◌∙◌, arith}
use Rattle.std.specs.Prelude.{drop}
use Rattle.std.specs.List.{list_any}
use Rattle.std.proofs.lemmas.Bool.{or_parts}
use Rattle.std.proofs.lemmas.List.{length-map}
use Rattle.f2_bytes.specs.declared.layout.Layout.{Layout}
use Rattle.f2_bytes.specs.Bytes.{Block, numbers_below, quotient_up}
use Rattle.f2_bytes.specs.Defragment.{target_block}
use Rattle.f2_change.specs.Change.{given}
use Rattle.f2_commit.proofs.MoveTargets.{behind, same_number, enough_room}
use Rattle.f2_commit.proofs.ShiftGiven.{keys, length-mapped, get_or-mapped, any-mapped, given_not, given_never, given_only, given_before, given_behind}

-- so many blocks go to the first targets, and so many behind them
module _ (l : Layout) (targets : List ℕ) (n k : ℕ)
    (different : (i j : ℕ) → i < length targets → j < length targets → get_or targets i 0 ≡ get_or targets j 0 → i ≡ j) (enough : quotient_up n 512 + quotient_up k 512 ≤ length targets) where
  abbrev rest : List ℕ
  rest = drop (quotient_up n 512) targets

  pub first_low : (i : ℕ) → i < n → i < 512 * length targets
  first_low i low =
      let room = enough_room i n low in
      omega (arith, room, enough)

  pub second_low : (j : ℕ) → j < k → 512 * quotient_up n 512 + j < 512 * length targets
  second_low j low =
      let room = enough_room j k low in
      omega (arith, room, enough)

  first_apart : (i j : ℕ) → i < n → j < n → target_block l targets i ≡ target_block l targets j → i ≡ j
  first_apart i j low_i low_j same = same_number l targets i j different (first_low i low_i) (first_low j low_j) same

  second_apart : (i j : ℕ) → i < k → j < k → target_block l rest i ≡ target_block l rest j → i ≡ j
  second_apart i j low_i low_j same =
      let d = 512 * quotient_up n 512 in
      let numbers : d + i ≡ d + j
      = same_number l targets (d + i) (d + j) different (second_low i low_i) (second_low j low_j) (sym (behind l targets (quotient_up n 512) i) ∙ same ∙ behind l targets (quotient_up n 512) j) in
      omega (arith, numbers)

  both_apart : (i j : ℕ) → i < n → j < k → target_block l targets i ≡ target_block l rest j → ⊥
  both_apart i j low_i low_j same =
      let d = 512 * quotient_up n 512 in
      let numbers : i ≡ d + j = same_number l targets i (d + j) different (first_low i low_i) (second_low j low_j) (same ∙ behind l targets (quotient_up n 512) j) in
      let room = enough_room i n low_i in
      omega (arith, numbers, room)

  module _ (xs ys : List (ℕ × Block)) (first : keys xs ≡ map (target_block l targets) (numbers_below n)) (second : keys ys ≡ map (target_block l rest) (numbers_below k)) where
    first_long : length xs ≡ n
    first_long = sym (length-map xs (λ (w : ℕ × Block). w.0)) ∙ ap length first ∙ length-mapped (target_block l targets) n

    second_long : length ys ≡ k
    second_long = sym (length-map ys (λ (w : ℕ × Block). w.0)) ∙ ap length second ∙ length-mapped (target_block l rest) k

    first_key : (i : ℕ) → i < n → get_or (keys xs) i 0 ≡ target_block l targets i
    first_key i low = ap (λ ks. get_or ks i 0) first ∙ get_or-mapped (target_block l targets) n i 0 low

    second_key : (j : ℕ) → j < k → get_or (keys ys) j 0 ≡ target_block l rest j
    second_key j low = ap (λ ks. get_or ks j 0) second ∙ get_or-mapped (target_block l rest) k j 0 low

    pub first_given : (i : ℕ) (d : ℕ × Block) → i < n → given (xs ++ ys) (target_block l targets i) ≡ Some (get_or xs i d).1
    first_given i d low =
        let long = first_long in
        let long_too = second_long in
        let none : given ys (target_block l targets i) ≡ None
        = given_never ys (target_block l targets i) (λ j inside at.
        let low_j : j < k = omega (arith, inside, long_too) in
        both_apart i j low low_j (sym at ∙ second_key j low_j)) in
        given_before xs ys (target_block l targets i) none
        ∙ given_only xs (target_block l targets i) i d (omega (arith, low, long)) (first_key i low) (λ j inside at.
        let low_j : j < n = omega (arith, inside, long) in
        first_apart j i low_j low (sym (first_key j low_j) ∙ at))

    pub second_given : (j : ℕ) (d : ℕ × Block) → j < k → given (xs ++ ys) (target_block l rest j) ≡ Some (get_or ys j d).1
    second_given j d low =
        let long = second_long in
        given_behind xs ys (target_block l rest j) (get_or ys j d).1
        (given_only ys (target_block l rest j) j d (omega (arith, low, long)) (second_key j low) (λ i inside at.
        let low_i : i < k = omega (arith, inside, long) in
        second_apart i j low_i low (sym (second_key i low_i) ∙ at)))

    pub none_given : (x : ℕ) → (list_any (λ i. target_block l targets i == x) (numbers_below n) || list_any (λ j. target_block l rest j == x) (numbers_below k)) ≡ false → given (xs ++ ys) x ≡ None
    none_given x untaken =
        let parts = or_parts (list_any (λ i. target_block l targets i == x) (numbers_below n)) (list_any (λ j. target_block l rest j == x) (numbers_below k)) untaken in
        given_before xs ys x (given_not ys x (ap (list_any (λ m. m == x)) second ∙ any-mapped (λ m. m == x) (target_block l rest) (numbers_below k) ∙ parts.1))
        ∙ given_not xs x (ap (list_any (λ m. m == x)) first ∙ any-mapped (λ m. m == x) (target_block l targets) (numbers_below n) ∙ parts.0)
