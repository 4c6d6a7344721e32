-- What is counted in a whole image.
use Rattle.std.specs.Prelude.{◌≡◌, ℕ, not, ◌&&◌, Bool, is_some, filter, sum_by}
use Rattle.f2_bytes.specs.Bytes.{Image, numbers_below, count_below}
use Rattle.f2_bytes.specs.Checkpoint.{head}
use Rattle.f2_bytes.specs.NodeAddressTable.{nat}
use Rattle.f2_bytes.specs.Tree.{is_inode}
use Rattle.f2_bytes.specs.Check.{nids, used_slots}
use Rattle.f2_bytes.specs.Checkpoint.{is_log_segment}
use Rattle.f2_bytes.specs.SegmentTable.{has_valid_block}
use Rattle.f2_areas.specs.declared.rule_7_counts.Totals.{Totals}

-- the numbers of the image's nodes and inodes, and of the slots of its files that aren't holes
abbrev pub node_total : Image → ℕ
node_total image = count_below (nids image) (λ nid. is_some (nat image nid))

abbrev pub inode_total : Image → ℕ
inode_total image = count_below (nids image) (is_inode image)

abbrev pub slot_total : Image → ℕ
slot_total image = sum_by (used_slots image) (filter (is_inode image) (numbers_below (nids image)))

-- these are kept
pub record HasTotals (image : Image) (t : Totals) : Type 0 where
  pub nodes : t.nodes ≡ node_total image
  pub inodes : t.inodes ≡ inode_total image
  pub slots : t.slots ≡ slot_total image

-- the segment has no valid block, and is no log's
abbrev pub is_free : Image → ℕ → Bool
is_free image segment = not (has_valid_block image segment) && not (is_log_segment (head image) segment)
