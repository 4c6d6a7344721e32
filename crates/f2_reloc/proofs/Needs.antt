-- How many segments the batches of a range need.
use Rattle.std.proofs.Common.{◌≡◌, ℕ, ◌+◌, ◌*◌, ◌<◌, ◌≤◌, List, [], ◌∷◌, true, length, sum_by, All, sym, ap, subst, ◌∙◌, arith}
use Rattle.std.proofs.lemmas.Bool.{and_from, le-leb, lt-ltb}
use Rattle.std.proofs.lemmas.List.Elements.{All-head, All-tail, All-weaker}
use Rattle.std.proofs.lemmas.List.Sums.{sum_by-cons}
use Rattle.f2_bytes.specs.Bytes.{Image}
use Rattle.f2_bytes.specs.Superblock.{layout, is_main}
use Rattle.f2_bytes.specs.NodeAddressTable.{nid_limit}
use Rattle.f2_bytes.specs.Check.{is_checked}
use Rattle.f2_bytes.specs.Defragment.{placement, occupied, batch_need, main_end, defrag_batches}
use Rattle.f2_reloc.specs.Emptying.{valid_among}
use Rattle.f2_reloc.proofs.Cuts.{batches_few, batches_within}
use Rattle.f2_reloc.proofs.Occupied.{need_few, occupied_need}
use Rattle.f2_reloc.proofs.Standing.{occupied_marked}

-- a sum of small numbers is small
pub sum_small : (f : List ℕ → ℕ) (most : ℕ) (xs : List (List ℕ)) → All (λ x. f x ≤ most) xs → sum_by f xs ≤ length xs * most
sum_small f most [] all = omega arith
sum_small f most (x ∷ xs) all =
    let first = All-head (λ y. f y ≤ most) x xs all in
    let rest = sum_small f most xs (All-tail (λ y. f y ≤ most) x xs all) in
    let parts = sum_by-cons f x xs in
    grind (arith, first, rest, parts)

module _ (image : Image) (h : is_checked image ≡ true) (start end : ℕ) (main : (layout image).main ≤ start) (inside : end ≤ main_end (layout image)) where
  abbrev nids : ℕ
  nids = nid_limit (layout image)

  range_main : (a : ℕ) → start ≤ a → a < end → is_main (layout image) a ≡ true
  range_main a low high = and_from _ _ (le-leb (layout image).main a (omega (arith, main, low))) (lt-ltb a ((layout image).main + 512 * (layout image).segments) (omega (arith, inside, high)))

  -- the valid blocks of a batch are those at which something stands
  pub batches_valid : All (λ b. valid_among image b ≡ occupied nids (placement image) b) (defrag_batches image start end)
  batches_valid =
      All-weaker (All (λ a. (start ≤ a) × (a < end))) (λ b. valid_among image b ≡ occupied nids (placement image) b)
      (λ b each. sym (occupied_marked image h b (All-weaker (λ a. (start ≤ a) × (a < end)) (λ a. is_main (layout image) a ≡ true) (λ a there. range_main a there.0 there.1) b each)))
      (defrag_batches image start end) (batches_within nids (placement image) (layout image) start end)

  pub valid_few : All (λ b. length (valid_among image b) ≤ 4096) (defrag_batches image start end)
  valid_few = λ k d low. subst (λ (xs : List ℕ). length xs ≤ 4096) (sym (batches_valid k d low)) (batches_few nids (placement image) (layout image) start end k d low)

  pub valid_need : All (λ b. batch_need nids (placement image) (valid_among image b) ≡ batch_need nids (placement image) b) (defrag_batches image start end)
  valid_need = λ k d low. ap (batch_need nids (placement image)) (batches_valid k d low) ∙ occupied_need nids (placement image) _

  pub needs_small : All (λ b. batch_need nids (placement image) b ≤ 9 + nids) (defrag_batches image start end)
  needs_small = λ k d low. need_few nids (placement image) _ (batches_few nids (placement image) (layout image) start end k d low)
