-- The need of a batch more, and of all.
use Rattle.std.proofs.Common.{◌≡◌, ℕ, ◌+◌, ◌-◌, ◌^◌, ◌<◌, ◌≤◌, List, [], ◌∷◌, true, min, map, take, length, get_or, sum_by, All, sym, ap, subst, ◌∙◌, arith}
use Rattle.std.proofs.lemmas.List.{take_more, take_all, length-take, length-map, take-map, get_or-map, map-append}
use Rattle.std.proofs.lemmas.List.Elements.{All-take}
use Rattle.std.proofs.lemmas.List.Sums.{sum_by-append, sum_by-cons}
use native.Mathlib.Nat.{mul-le-mul}
use Rattle.f2_bytes.specs.declared.layout.Layout.{Layout}
use Rattle.f2_bytes.specs.Bytes.{Image}
use Rattle.f2_bytes.specs.Check.{is_checked}
use Rattle.f2_bytes.specs.NodeAddressTable.{nid_limit}
use Rattle.f2_bytes.specs.Superblock.{IsInOrder, layout}
use Rattle.f2_bytes.specs.Defragment.{placement, batch_need, move_need, defrag_batches, defrag_need}
use Rattle.f2_reloc.specs.Emptying.{end_of, part_of, valid_among, IsInside, IsNeed}
use Rattle.f2_reloc.specs.declared.batches.Batch.{Batch}
use Rattle.f2_reloc.specs.declared.batches.Range.{Range}
use Rattle.f2_reloc.proofs.Needs.{sum_small, valid_few, needs_small}

module _ (image : Image) (h : is_checked image ≡ true) (l : Layout) (same : l ≡ layout image) (range : Range) (inside : IsInside l range) (batches : List Batch)
    (cut : map (part_of l range) batches ≡ defrag_batches image range.start (end_of range)) where
  abbrev needs : List ℕ → ℕ
  needs b = batch_need (nid_limit (layout image)) (placement image) b

  own : IsInside (layout image) range
  own = subst (λ (x : Layout). IsInside x range) same inside

  batch_few : (i : ℕ) (d : Batch) → i < length batches → length (valid_among image (part_of l range (get_or batches i d))) ≤ 4096
  batch_few i d low =
      let all : All (λ b. length (valid_among image b) ≤ 4096) (map (part_of l range) batches)
      = subst (All (λ b. length (valid_among image b) ≤ 4096)) (sym cut) (valid_few image h range.start (end_of range) own.above own.below) in
      let long = length-map batches (part_of l range) in
      subst (λ b. length (valid_among image b) ≤ 4096) (get_or-map (part_of l range) batches i d (part_of l range d) low) (all i (part_of l range d) (omega (arith, low, long)))

  sum_next : (i : ℕ) (d : Batch) → i < length batches → move_need (nid_limit (layout image)) (placement image) (map (part_of l range) (take (i + 1) batches))
      ≡ move_need (nid_limit (layout image)) (placement image) (map (part_of l range) (take i batches)) + batch_need (nid_limit (layout image)) (placement image) (part_of l range (get_or batches i d))
  sum_next i d low =
      ap (λ xs. sum_by needs (map (part_of l range) xs)) (take_more batches i d low)
      ∙ ap (sum_by needs) (map-append (part_of l range) (take i batches) (get_or batches i d ∷ []))
      ∙ sum_by-append needs (map (part_of l range) (take i batches)) (part_of l range (get_or batches i d) ∷ [])
      ∙ ap (λ n. sum_by needs (map (part_of l range) (take i batches)) + n) (sum_by-cons needs (part_of l range (get_or batches i d)) [] ∙ omega arith)

  sum_low : (n : ℕ) → IsInOrder l → length batches ≤ l.segments + 1 → move_need (nid_limit (layout image)) (placement image) (map (part_of l range) (take n batches)) < 2 ^ 60
  sum_low n order count =
      let all = All-take (λ b. needs b ≤ 9 + nid_limit (layout image)) n (defrag_batches image range.start (end_of range)) (needs_small image h range.start (end_of range) own.above own.below) in
      let is : take n (defrag_batches image range.start (end_of range)) ≡ map (part_of l range) (take n batches) = ap (take n) (sym cut) ∙ take-map (part_of l range) n batches in
      let sum = sum_small needs (9 + nid_limit (layout image)) (map (part_of l range) (take n batches)) (subst (All (λ b. needs b ≤ 9 + nid_limit (layout image))) is all) in
      let long = length-map (take n batches) (part_of l range) in
      let short = length-take n batches in
      let half = ap (λ (x : Layout). x.nat_half) same in
      let halves = order.halves in
      let fits = order.inside in
      let few = order.few in
      let one : length (map (part_of l range) (take n batches)) ≤ 2 ^ 20 = omega (arith, long, short, count, fits, few) in
      let two : 9 + nid_limit (layout image) ≤ 2 ^ 25 = omega (arith, half, halves) in
      let most = mul-le-mul one two in
      omega (arith, sum, most)

  pub need_next : IsInOrder l → length batches ≤ l.segments + 1 → (i : ℕ) (d : Batch) → i < length batches → (sum more next : ℕ)
      → sum ≡ move_need (nid_limit (layout image)) (placement image) (map (part_of l range) (take i batches)) → IsNeed image (part_of l range (get_or batches i d)) more → next ≡ min (sum + more) (2 ^ 64 - 1)
      → next ≡ move_need (nid_limit (layout image)) (placement image) (map (part_of l range) (take (i + 1) batches))
  need_next order count i d low sum more next was need adds =
      let is = need (batch_few i d low) in
      let small = sum_low (i + 1) order count in
      let step = sum_next i d low in
      omega (arith, was, is, small, step, adds)

  pub need_all : (n : ℕ) → length batches ≤ n → move_need (nid_limit (layout image)) (placement image) (map (part_of l range) (take n batches)) ≡ defrag_need image range.start (end_of range)
  unfolding defrag_need
  need_all n past = ap (λ xs. sum_by needs (map (part_of l range) xs)) (take_all n batches past) ∙ ap (sum_by needs) cut
