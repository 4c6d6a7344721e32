-- What is kept of the extents of regular files.
use Rattle.std.specs.Prelude.{◌≡◌, ℕ, ◌+◌, ◌-◌, ◌&&◌, nat_le, nat_lt, if◌then◌else◌, List, [], ◌++◌, fold, Some}
use Rattle.f2_bytes.specs.Bytes.{Block, Image}
use Rattle.f2_bytes.specs.Node.{is_regular, is_inline, address_count, block_limit}
use Rattle.f2_bytes.specs.Check.{Defect, inode_of, same}
use Rattle.f2_defects.specs.Collected.{Collects, defects_of, run_defects}
use Rattle.f2_survey.specs.Slots.{Slot}
use Rattle.f2_items.specs.Visits.{found_below}
use Rattle.f2_bytes.specs.Node.{ext_fofs, ext_addr, ext_len}
use Rattle.f2_files.specs.declared.rule_9_extents.Extent.{Extent as CodeExtent}
use Rattle.f2_files.specs.declared.rule_9_extents.Extents.{Extents}

-- the blocks of a file that its extent speaks of: the first, its address, and where they end; those from the limit on have
-- no address, and of those before it a hole has address 0
pub record Extent : Type 0 where
  pub first : ℕ
  pub address : ℕ
  pub end : ℕ
  pub limit : ℕ

-- the blocks that the extent in an inode speaks of: none where the file isn't regular
abbrev pub extent_of : Block → Extent
extent_of b = record {
  first = ext_fofs b;
  address = ext_addr b;
  end = if is_regular b then ext_fofs b + ext_len b else ext_fofs b;
  limit = if is_inline b then ext_fofs b + ext_len b else block_limit (address_count b);
}

abbrev pub extent_in : CodeExtent → Extent
extent_in x = record { first = x.first; address = x.address; end = x.end; limit = x.limit }

-- the address that the extent wants of a block
abbrev pub wanted_at : Extent → ℕ → ℕ
wanted_at x k = x.address + (k - x.first)

-- how far the blocks have been compared, and the defects among them
pub record Walk : Type 0 where
  pub next : ℕ
  pub defects : List Defect

-- the defects of blocks without slots, and that of a slot
abbrev pub hole_defects : ℕ → Extent → ℕ → ℕ → List Defect
hole_defects ino x from to = run_defects 3 ino from (to - from) 0 (wanted_at x from)

abbrev pub slot_defects : ℕ → Extent → Slot → List Defect
slot_defects ino x s = defects_of 3 ino s.k (same s.address (wanted_at x s.k))

-- one slot more: the holes before it, and itself, where it lies in the extent
abbrev pub walk_on : ℕ → Extent → Walk → Slot → Walk
walk_on ino x w s =
    if nat_le w.next s.k && nat_lt s.k x.end
    then record { next = s.k + 1; defects = w.defects ++ hole_defects ino x w.next s.k ++ slot_defects ino x s }
    else w

unfoldable pub walked : ℕ → Extent → List Slot → Walk
walked ino x slots = fold (walk_on ino x) (record { next = x.first; defects = [] }) slots

-- every file with a number below n was visited
pub record ExtentsAfter (image : Image) (n : ℕ) (e : Extents) : Type 0 where
  pub part : e.defects.part ≡ 3
  pub defects : Collects e.defects (found_below image 9 3 n)

-- and so were these slots of the next one
pub record ExtentsInside (image : Image) (ino : ℕ) (slots : List Slot) (e : Extents) : Type 0 where
  pub part : e.defects.part ≡ 3
  pub says : (inode : Block) → inode_of image ino ≡ Some inode → extent_in e.extent ≡ extent_of inode
  pub next : e.extent.next ≡ (walked ino (extent_in e.extent) slots).next
  pub defects : Collects e.defects (found_below image 9 3 ino ++ (walked ino (extent_in e.extent) slots).defects)
