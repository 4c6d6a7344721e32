-- The parts of rule 7: the counts of the checkpoint.
use Rattle.std.proofs.Common.{◌≡◌, ℕ, ◌+◌, ◌-◌, ◌*◌, ◌^◌, ◌≤◌, List, length, get_or, map, not, Bool, true, false, cond, filter, sum_by, refl, arith}
use Rattle.std.specs.Prelude.{◌==◌, ◌&&◌, min, count_by, is_some}
use Rattle.std.specs.Int.{from_bool}
use Rattle.std.specs.List.{list_any}
use Rattle.std.proofs.lemmas.List.Sums.{sum_by-le, count_by-le-length, length-filter}
use Rattle.std.proofs.Math.Nat.{mul-le-mul_right}
use Rattle.f2_bytes.specs.Bits.{bit_msb}
use Rattle.f2_bytes.specs.Bytes.{Image, numbers_below, count_below}
use Rattle.f2_bytes.specs.Checkpoint.{head, log, log_numbers, valid_block_count, valid_node_count, valid_inode_count, free_segment_count}
use Rattle.f2_bytes.specs.Journal.{SitEntry}
use Rattle.f2_bytes.specs.NodeAddressTable.{nat}
use Rattle.f2_bytes.specs.SegmentTable.{sit}
use Rattle.f2_bytes.specs.Superblock.{layout, IsInOrder}
use Rattle.f2_bytes.specs.Tree.{is_inode, tree_slot}
use Rattle.f2_bytes.proofs.Below.{length-numbers_below}
use Rattle.f2_bytes.specs.Check.{count_parts, part_defects, same, single, nids, used_slots}
use Rattle.f2_survey.specs.Parts.{part_in}
use Rattle.f2_areas.specs.Totals.{node_total, inode_total, slot_total, is_free}
use Rattle.f2_bytes.specs.Node.{most_blocks}
use Rattle.f2_areas.proofs.Distinct.{sum_below-more}

module _ (image : Image) where
  pub block_part : part_defects (part_in image 7 1) ≡ part_defects (single 1 (same (valid_block_count (head image)) (node_total image + slot_total image)))
  unfolding count_parts
  block_part = refl

  pub node_part : part_defects (part_in image 7 2) ≡ part_defects (single 2 (same (valid_node_count (head image)) (node_total image)))
  unfolding count_parts
  node_part = refl

  pub inode_part : part_defects (part_in image 7 3) ≡ part_defects (single 3 (same (valid_inode_count (head image)) (inode_total image)))
  unfolding count_parts
  inode_part = refl

  pub free_part : part_defects (part_in image 7 4) ≡ part_defects (single 4 (same (free_segment_count (head image)) (count_below (layout image).segments (is_free image))))
  unfolding count_parts
  free_part = refl

  -- what is seen of a segment says whether it is free
  pub free-at : (e : SitEntry) (segno : ℕ) (logs : List ℕ) → e ≡ sit image segno → logs ≡ map (λ t. (log (head image) t).segment) log_numbers
      → (not (list_any (bit_msb e.map) (numbers_below 512)) && not (list_any (λ s. s == segno) logs)) ≡ is_free image segno
  free-at e segno logs is own = λ i. not (list_any (bit_msb (is i).map) (numbers_below 512)) && not (list_any (λ s. s == segno) (own i))

-- ---- how many there are

pub count-none : (p : ℕ → Bool) → count_below 0 p ≡ 0
unfolding numbers_below
count-none p = refl

pub count-more : (p : ℕ → Bool) (n : ℕ) → count_below (n + 1) p ≡ count_below n p + cond (p n) 1 0
count-more p n = sum_below-more (λ k. cond (p k) 1 0) n

pub counted-low : (n : ℕ) (b : Bool) → n ≡ from_bool b → n ≤ 1
counted-low n true is = omega (arith, is)
counted-low n false is = omega (arith, is)

count-low : (n : ℕ) (p : ℕ → Bool) → count_below n p ≤ n
count-low n p = let few = count_by-le-length p (numbers_below n) in let all = length-numbers_below n in omega (arith, few, all)

most_blocks-is : most_blocks ≡ 1057053439
unfolding most_blocks
most_blocks-is = refl

-- the nodes and the slots of an image, its areas in order, can be counted together
module _ (image : Image) (order : IsInOrder (layout image)) where
  nids-low : nids image ≤ 13977600
  nids-low = let h = order.halves in omega (arith, h)

  node_total-low : node_total image ≤ 13977600
  node_total-low = let few : node_total image ≤ nids image = count-low (nids image) (λ nid. is_some (nat image nid)) in let n = nids-low in omega (arith, few, n)

  slots-low : (ino : ℕ) → used_slots image ino ≤ 1057053439
  slots-low ino = let few : used_slots image ino ≤ most_blocks = count-low most_blocks (λ k. not (tree_slot image ino k == 0)) in let all = most_blocks-is in omega (arith, few, all)

  slot_total-low : slot_total image ≤ 13977600 * 1057053439
  slot_total-low =
      let xs = filter (is_inode image) (numbers_below (nids image)) in
      let each : sum_by (used_slots image) xs ≤ length xs * 1057053439 = sum_by-le (used_slots image) 1057053439 xs (λ k d below. slots-low (get_or xs k d)) in
      let kept : length xs ≡ count_by (is_inode image) (numbers_below (nids image)) = length-filter (is_inode image) (numbers_below (nids image)) in
      let few = count-low (nids image) (is_inode image) in
      let n = nids-low in
      let small : length xs ≤ 13977600 = omega (arith, kept, few, n) in
      let more = mul-le-mul_right 1057053439 small in
      omega (arith, each, more)

  pub block_total-fits : min (node_total image + slot_total image) (2 ^ 64 - 1) ≡ node_total image + slot_total image
  block_total-fits = let n = node_total-low in let s = slot_total-low in omega (arith, n, s)
