-- The places of target segments: those with different numbers are different, and all lie in main.
use Rattle.std.proofs.Common.{◌≡◌, ℕ, ◌+◌, ◌*◌, ◌/◌, ◌%◌, ◌<◌, List, true, ◌==◌, length, get_or, Option, Some, None, refl, sym, ap, ◌∙◌, arith}
use Rattle.std.specs.Prelude.{drop, position, option_map}
use Rattle.std.proofs.lemmas.Bool.{and_from, eqb-true, le-leb, lt-ltb}
use Rattle.std.proofs.lemmas.List.{get_or-drop}
use Rattle.std.proofs.lemmas.List.Quantifiers.{position-Some}
use Rattle.f2_bytes.specs.declared.layout.Layout.{Layout}
use Rattle.f2_bytes.specs.Bytes.{quotient_up}
use Rattle.f2_bytes.specs.Superblock.{segment_of, place_of, segment_start, is_main}
use Rattle.f2_bytes.specs.Defragment.{put_at, target_block}

some_same : {A : Type 0} (x y : A) → Some x ≡ Some y → x ≡ y
some_same x y e = ap (λ o. elim o [ Some z ↦ z | None ↦ y ]) e

-- an element that is put somewhere is at that number in its list
pub put_number : (l : Layout) (targets moved : List ℕ) (x place : ℕ) → put_at l targets moved x ≡ Some place
    → (n : ℕ) × (n < length moved) × (get_or moved n 0 ≡ x) × (place ≡ target_block l targets n)
put_number l targets moved x place put = go (position (λ y. y == x) moved) refl put
  where
    go : (o : Option ℕ) → position (λ y. y == x) moved ≡ o → option_map (target_block l targets) o ≡ Some place
        → (n : ℕ) × (n < length moved) × (get_or moved n 0 ≡ x) × (place ≡ target_block l targets n)
    go None at e = absurd (cc e)
    go (Some n) at e =
        let t = position-Some (λ y. y == x) moved n 0 at in
        (n, t.0, eqb-true (get_or moved n 0) x t.1, sym (some_same (target_block l targets n) place e))

-- a place behind the first segments has so many more before it
pub behind : (l : Layout) (targets : List ℕ) (d n : ℕ) → target_block l (drop d targets) n ≡ target_block l targets (512 * d + n)
behind l targets d n =
    let whole : d + n / 512 ≡ (512 * d + n) / 512 = omega arith in
    let rest : n % 512 ≡ (512 * d + n) % 512 = omega arith in
    (λ i. segment_start l (get_or-drop d targets (n / 512) 0 i) + n % 512)
    ∙ (λ i. segment_start l (get_or targets (whole i) 0) + rest i)

-- the segment of a place, and its number there
pub segment_at : (l : Layout) (targets : List ℕ) (n : ℕ) → segment_of l (target_block l targets n) ≡ get_or targets (n / 512) 0
segment_at l targets n = omega arith

pub place_at : (l : Layout) (targets : List ℕ) (n : ℕ) → place_of l (target_block l targets n) ≡ n % 512
place_at l targets n = omega arith

pub place_main : (l : Layout) (targets : List ℕ) (n : ℕ) → get_or targets (n / 512) 0 < l.segments → is_main l (target_block l targets n) ≡ true
place_main l targets n low =
    and_from _ _ (le-leb l.main (target_block l targets n) (omega arith)) (lt-ltb (target_block l targets n) (l.main + 512 * l.segments) (omega (arith, low)))

-- two numbers with one place are one
pub same_number : (l : Layout) (targets : List ℕ) (n m : ℕ)
    → ((i j : ℕ) → i < length targets → j < length targets → get_or targets i 0 ≡ get_or targets j 0 → i ≡ j)
    → n < 512 * length targets → m < 512 * length targets → target_block l targets n ≡ target_block l targets m → n ≡ m
same_number l targets n m different low_n low_m same =
    let segment : get_or targets (n / 512) 0 ≡ get_or targets (m / 512) 0 = sym (segment_at l targets n) ∙ ap (segment_of l) same ∙ segment_at l targets m in
    let rest : n % 512 ≡ m % 512 = sym (place_at l targets n) ∙ ap (place_of l) same ∙ place_at l targets m in
    let whole = different (n / 512) (m / 512) (omega (arith, low_n)) (omega (arith, low_m)) segment in
    omega (arith, whole, rest)

-- as many segments as are needed for so many blocks
pub enough_room : (n count : ℕ) → n < count → n < 512 * quotient_up count 512
enough_room n count low = omega (arith, low)
