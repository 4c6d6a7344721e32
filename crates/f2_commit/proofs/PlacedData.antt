-- Where the block at an address goes: to the place that it has among those that move, or nowhere.
use Rattle.std.proofs.Common.{◌≡◌, ℕ, ◌<◌, ◌≤◌, true, false, ◌==◌, nat_lt, cond, List, Some, None, map, length, get_or, ap, ◌∙◌, ⊎_elim, arith}
use Rattle.std.specs.Prelude.{option_map, unwrap_or}
use Rattle.std.specs.List.{position_or_len}
use Rattle.std.specs.List.Sorted.{IsNonDecreasingBy, IsPartitionPoint}
use Rattle.std.proofs.lemmas.Bool.{eq-eqb, ne_eqb, ltb-true, ltb-false, lt-ltb, le-ltb, cases_lt}
use Rattle.std.proofs.lemmas.List.{get_or-map, length-map}
use Rattle.std.proofs.lemmas.List.Sums.{position_or_len_is}
use Rattle.f2_bytes.specs.declared.layout.Layout.{Layout}
use Rattle.f2_bytes.specs.Defragment.{target_block}
use Rattle.f2_commit.specs.Shifting.{placed_data}

module _ (l : Layout) (targets xs : List ℕ) (a : ℕ) where
  pub placed_own : position_or_len (λ y. y == a) xs ≡ length xs → placed_data l targets xs a ≡ a
  unfolding placed_data
  placed_own none =
      let past : nat_lt (position_or_len (λ y. y == a) xs) (length xs) ≡ false = le-ltb (position_or_len (λ y. y == a) xs) (length xs) (omega (arith, none)) in
      ap (λ t. unwrap_or (option_map (target_block l targets) (cond t (Some (position_or_len (λ y. y == a) xs)) None)) a) past

  pub placed_at : (i : ℕ) → position_or_len (λ y. y == a) xs ≡ i → i < length xs → placed_data l targets xs a ≡ target_block l targets i
  unfolding placed_data
  placed_at i is low =
      let under : nat_lt (position_or_len (λ y. y == a) xs) (length xs) ≡ true = lt-ltb (position_or_len (λ y. y == a) xs) (length xs) (omega (arith, is, low)) in
      ap (λ t. unwrap_or (option_map (target_block l targets) (cond t (Some (position_or_len (λ y. y == a) xs)) None)) a) under ∙ ap (target_block l targets) is

-- the first place that is not below a number, in a list that does not fall
module _ {X : Type 0} (f : X → ℕ) (bs : List X) (a i : ℕ) (point : IsPartitionPoint (λ b. nat_lt (f b) a ≡ true) (λ b. nat_lt (f b) a ≡ false) bs i) where
  -- an element by its number
  number_at_place : (k : ℕ) (d : X) → k < length bs → get_or (map f bs) k (f d) ≡ f (get_or bs k d)
  number_at_place k d low = get_or-map f bs k d (f d) low

  pub place_found : (d : X) → i < length bs → f (get_or bs i d) ≡ a → position_or_len (λ y. y == a) (map f bs) ≡ i
  place_found d low here =
      let long = length-map bs f in
      position_or_len_is (λ y. y == a) (map f bs) i (f d) (omega (arith, long, low))
      (λ k before.
      let at = number_at_place k d (omega (arith, before, low)) in
      let under = ltb-true (f (get_or bs k d)) a (point.0 k d (omega arith) before) in
      ne_eqb (get_or (map f bs) k (f d)) a (λ e. omega (arith, e, at, under)))
      (λ inside. eq-eqb (get_or (map f bs) i (f d)) a (number_at_place i d low ∙ here))

  pub place_none : (d : X) → IsNonDecreasingBy f bs → i ≤ length bs → (i < length bs → f (get_or bs i d) ≡ a → ⊥) → position_or_len (λ y. y == a) (map f bs) ≡ length (map f bs)
  place_none d rises within other =
      let long = length-map bs f in
      position_or_len_is (λ y. y == a) (map f bs) (length (map f bs)) (f d) (omega arith)
      (λ k inside.
      let low : k < length bs = omega (arith, inside, long) in
      let at = number_at_place k d low in
      ⊎_elim
      (λ before.
      let under = ltb-true (f (get_or bs k d)) a (point.0 k d (omega arith) before) in
      ne_eqb (get_or (map f bs) k (f d)) a (λ e. omega (arith, e, at, under)))
      (λ behind.
      let first : i < length bs = omega (arith, behind, low) in
      let from = ltb-false (f (get_or bs i d)) a (point.1 i d (omega arith) first) in
      let step = rises i k d behind low in
      let apart = other first in
      ne_eqb (get_or (map f bs) k (f d)) a (λ e. apart (omega (arith, e, at, from, step))))
      (cases_lt k i))
      (λ inside. absurd (omega arith))
