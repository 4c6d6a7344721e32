-- The first of some blocks that do not lie before an extent says whether the extent covers one of them.
use Rattle.std.proofs.Common.{◌≡◌, ℕ, ◌+◌, ◌/◌, ◌<◌, ◌≤◌, List, true, false, nat_le, nat_lt, map, length, get_or, sym, ap, ◌∙◌, ⊎_elim, arith}
use Rattle.std.specs.List.{list_any}
use Rattle.std.specs.List.Sorted.{IsStrictlyIncreasing, IsNonDecreasingBy, IsPartitionPoint}
use Rattle.std.proofs.lemmas.Bool.{and_parts, and_from, eq-eqb, ne_eqb, leb-true, le-leb, ltb-true, ltb-false, lt-ltb, cond-true, cond-false, cases_lt, false_from_ne_true}
use Rattle.std.proofs.lemmas.List.{get_or-map, get_or_default, length-map}
use Rattle.std.proofs.lemmas.List.Folds.{Any-from_list_any, list_any_at}
use Rattle.std.proofs.lemmas.List.Kept.{AllPairs-from_increasing}
use Rattle.f2_bytes.specs.Bytes.{Block}
use Rattle.f2_bytes.specs.Node.{mode, is_regular, ext_addr, ext_len}
use Rattle.f2_bytes.specs.Defragment.{is_covered, regular_extent}
use Rattle.f2_gather.proofs.Ascending.{bools_same, any-map}
use Rattle.f2_gather.proofs.MovedNodes.{none_covers}

-- blocks whose addresses rise do not fall
pub rises_by : {X : Type 0} (f : X → ℕ) (bs : List X) → IsStrictlyIncreasing (map f bs) → IsNonDecreasingBy f bs
rises_by f bs rises = λ i j d le low. ⊎_elim
    (λ before.
    let long = length-map bs f in
    let a = get_or-map f bs i d (f d) (omega (arith, before, low)) in
    let b = get_or-map f bs j d (f d) low in
    let step = AllPairs-from_increasing (map f bs) rises i j (f d) before (omega (arith, long, low)) in
    omega (arith, a, b, step))
    (λ not_before.
    let same : f (get_or bs i d) ≡ f (get_or bs j d) = ap (λ n. f (get_or bs n d)) (omega (arith, le, not_before)) in
    omega (arith, same))
    (cases_lt i j)

module _ {X : Type 0} (f : X → ℕ) (start len : ℕ) (bs : List X) (i : ℕ) (point : IsPartitionPoint (λ b. nat_lt (f b) start ≡ true) (λ b. nat_lt (f b) start ≡ false) bs i) where
  -- the address of a block that is covered, and where it stands
  covered_far : (k : ℕ) (d : X) → k < length bs → is_covered (start, len) (f (get_or bs k d)) ≡ true → (i ≤ k) × (f (get_or bs k d) < start + len)
  covered_far k d low covered =
      let a = f (get_or bs k d) in
      let parts = and_parts (nat_le start a) (nat_lt a (start + len)) covered in
      let from = leb-true start a parts.0 in (
        ⊎_elim
            (λ before. let under = ltb-true a start (point.0 k d (omega arith) before) in absurd (omega (arith, under, from)))
            (λ behind. behind)
            (cases_lt k i),
        ltb-true a (start + len) parts.1,
      )

  pub covered_none : length bs ≤ i → nat_lt i (length bs) ≡ list_any (is_covered (start, len)) (map f bs)
  covered_none past =
      let none : list_any (λ b. is_covered (start, len) (f b)) bs ≡ false = false_from_ne_true (list_any (λ b. is_covered (start, len) (f b)) bs) (λ some.
      let found = Any-from_list_any (λ b. is_covered (start, len) (f b)) bs some in
      let far = (covered_far found.0 found.1 found.2 (ap (λ b. is_covered (start, len) (f b)) found.3 ∙ found.4)).0 in
      let low = found.2 in
      omega (arith, far, low, past)) in
      false_from_ne_true (nat_lt i (length bs)) (λ less. let low = ltb-true i (length bs) less in omega (arith, low, past))
      ∙ sym none
      ∙ sym (any-map (is_covered (start, len)) f bs)

  pub covered_first : IsNonDecreasingBy f bs → i < length bs → (d : X) → nat_lt (f (get_or bs i d)) (start + len) ≡ list_any (is_covered (start, len)) (map f bs)
  covered_first rises low d =
      let a = f (get_or bs i d) in
      let test = λ (b : X). is_covered (start, len) (f b) in
      let from : start ≤ a = ltb-false a start (point.1 i d (omega arith) low) in
      bools_same (nat_lt a (start + len)) (list_any test bs)
      (λ under. list_any_at test bs i d low (and_from (nat_le start a) (nat_lt a (start + len)) (le-leb start a from) under))
      (λ some.
      let found = Any-from_list_any test bs some in
      let here : is_covered (start, len) (f (get_or bs found.0 found.1)) ≡ true = ap test found.3 ∙ found.4 in
      let same : get_or bs found.0 d ≡ get_or bs found.0 found.1 = get_or_default bs found.0 d found.1 found.2 in
      let far = covered_far found.0 d found.2 (ap test same ∙ here) in
      let inside = found.2 in
      let step = rises i found.0 d far.0 inside in
      let under = far.1 in
      lt-ltb a (start + len) (omega (arith, step, under)))
      ∙ sym (any-map (is_covered (start, len)) f bs)

-- what the fields of an inode say of its extent
pub extent_is : (b : Block) (m start len : ℕ) → m ≡ mode b → m / 4096 ≡ 8 → start ≡ ext_addr b → len ≡ ext_len b → (start, len) ≡ regular_extent b
extent_is b m start len is regular from long =
    (λ i. (from i, long i))
    ∙ sym (cond-true (is_regular b) (ext_addr b, ext_len b) (0, 0) (eq-eqb (mode b / 4096) 8 (ap (λ n. n / 4096) (sym is) ∙ regular)))

pub uncovered : (b : Block) (m : ℕ) (xs : List ℕ) → m ≡ mode b → (m / 4096 ≡ 8 → ⊥) → false ≡ list_any (is_covered (regular_extent b)) xs
uncovered b m xs is other =
    sym (ap (λ e. list_any (is_covered e) xs) (cond-false (is_regular b) (ext_addr b, ext_len b) (0, 0) (ne_eqb (mode b / 4096) 8 (λ e. other (ap (λ n. n / 4096) is ∙ e))))
    ∙ false_from_ne_true (list_any (is_covered (0, 0)) xs) (none_covers xs))
