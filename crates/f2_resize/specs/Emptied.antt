-- An image that is ready for the last part of a resize, and the superblock copies that this part writes.
use Rattle.std.specs.Prelude.{◌≡◌, ℕ, ◌+◌, ◌*◌, ◌^◌, ◌<◌, ◌≤◌, List, None, IsTrue, IsFalse}
use Rattle.f2_bytes.specs.Bytes.{Image}
use Rattle.f2_bytes.specs.Superblock.{copy_row, copy_passes, super_bytes, block_count, section_count, segment_count, segment_count_sit, segment_count_nat, segment_count_ssa, segment_count_main, cp_blkaddr, sit_blkaddr, nat_blkaddr, ssa_blkaddr, main_blkaddr, has_right_checksum}
use Rattle.f2_bytes.specs.Checkpoint.{head, log}
use Rattle.f2_bytes.specs.Check.{is_marked, is_checked}
use Rattle.f2_bytes.specs.declared.aim.Aim.{Aim}
use Rattle.f2_bytes.specs.Resize.{aim_of, aimed_layout, aim, is_kept_segment, emptied_start, emptied_end, nid_too_high}
use Rattle.f2_resize.specs.Relaid.{is_area_row, IsCopyFor, HasRoomIn}

-- no valid block is left in the segments that are emptied, no log is in one, and no node has too high a number
pub record IsEmptied (image : Image) (blocks : ℕ) : Type 0 where
  pub range : (address : ℕ) → emptied_start image blocks ≤ address → address < emptied_end image blocks
      → IsFalse (is_marked image address)
  pub logs : (t : ℕ) → t < 6 → IsTrue (is_kept_segment image blocks (log (head image) t).segment)
  pub nids : nid_too_high image blocks ≡ None

-- all that such an image uses finds room in the new layout
abbrev pub EmptiedHasRoom : Type 0
EmptiedHasRoom = (image : Image) (blocks : ℕ) → IsTrue (is_checked image) → blocks ≤ 2 ^ 28 → IsEmptied image blocks
    → HasRoomIn (aim image blocks).delta (aimed_layout (super_bytes image) (aim image blocks)) image

-- A copy that says the areas of an aim, and is else the old one but for the checksum.
pub record IsAimedCopy (aim : Aim) (old new : List ℕ) : Type 0 where
  pub blocks : block_count new ≡ aim.blocks
  pub sections : section_count new ≡ aim.main
  pub segments : segment_count new ≡ 2 + aim.sit + aim.nat + aim.ssa + aim.main
  pub sit : segment_count_sit new ≡ aim.sit
  pub nat : segment_count_nat new ≡ aim.nat
  pub ssa : segment_count_ssa new ≡ aim.ssa
  pub main : segment_count_main new ≡ aim.main
  pub sit_start : sit_blkaddr new ≡ cp_blkaddr old + 1024
  pub nat_start : nat_blkaddr new ≡ cp_blkaddr old + 1024 + 512 * aim.sit
  pub ssa_start : ssa_blkaddr new ≡ cp_blkaddr old + 1024 + 512 * aim.sit + 512 * aim.nat
  pub main_start : main_blkaddr new ≡ cp_blkaddr old + 1024 + 512 * aim.sit + 512 * aim.nat + 512 * aim.ssa
  pub rows : (row : ℕ) → row < 32 → IsFalse (is_area_row row) → copy_row new row ≡ copy_row old row
  pub checksum : IsTrue (has_right_checksum new)

-- such a copy passes, and is one for the layout of the aim
abbrev pub AimedCopyPasses : Type 0
AimedCopyPasses = (old new : List ℕ) (blocks : ℕ) → IsTrue (copy_passes old) → blocks ≤ 2 ^ 28
    → 1 ≤ (aim_of old blocks).main → IsAimedCopy (aim_of old blocks) old new
    → IsCopyFor (aimed_layout old (aim_of old blocks)) old new
