-- What a mount keeps of an image.
use Rattle.std.specs.Prelude.{◌≡◌, ℕ, ◌^◌, ◌<◌, ◌≤◌, true, Some}
use Rattle.f2_bytes.specs.declared.layout.Layout.{Layout}
use Rattle.f2_bytes.specs.Bytes.{Image, block_at}
use Rattle.f2_bytes.specs.Superblock.{layout_of, IsInOrder, super_copy, super_bytes, has_twins, unsupported_features}
use Rattle.f2_bytes.specs.Checkpoint.{checkpoint_ver, nat_bits, sit_bits, pack, pack_number, has_checkpoint}
use Rattle.f2_super.specs.declared.loading.Found.{Found}
use Rattle.f2_super.specs.Load.{IsSound}
use Rattle.f2_pack.specs.Held.{Held, chosen_of}
use Rattle.f2_pack.specs.Choice.{IsChosen}
use Rattle.f2_tables.specs.Tables.{NatTable, SitTable, OpensNat, OpensSit}

-- the superblock that counts, and the checkpoint pack that counts
pub record Mounted : Type 0 where
  pub found : Found
  pub chosen : Held

-- where the areas of a mounted image lie
abbrev pub layout_in : Mounted → Layout
layout_in m = layout_of m.found.sup

-- the mount is of this image: what it keeps is what the image says
pub record IsMountOf (image : Image) (m : Mounted) : Type 0 where
  pub copy : super_copy image ≡ Some m.found.copy
  pub sup : m.found.sup ≡ super_bytes image
  pub twin : m.found.twin ≡ has_twins image
  -- it has no feature bit that isn't read
  pub supported : unsupported_features m.found.sup ≡ 0
  pub checkpoint : has_checkpoint image ≡ true
  pub chosen : m.chosen ≡ chosen_of (pack image) (pack_number image)

-- what is known of a mount whatever the disk
pub record IsKept (m : Mounted) : Type 0 where
  pub in_order : IsInOrder (layout_in m)
  pub chosen : IsChosen (layout_in m) m.chosen

-- what a mount keeps, and its tables, which were opened with it
pub record IsWhole (m : Mounted) (nat : NatTable) (sit : SitTable) : Type 0 where
  pub kept : IsKept m
  pub nat_opened : OpensNat (layout_in m) (nat_bits m.chosen.head) m.chosen.nat_journal nat
  pub sit_opened : OpensSit (layout_in m) (sit_bits m.chosen.head) m.chosen.sit_journal sit

-- what is known of an image that was just mounted, on a disk of this many blocks
pub record IsMounted (size : ℕ) (m : Mounted) : Type 0 where
  pub sound : IsSound size m.found
  pub inside : (layout_in m).blocks ≤ size
  pub kept : IsKept m
  pub version : checkpoint_ver m.chosen.head < 2 ^ 62

-- an image has the superblock copies of another one
abbrev pub HasCopies : Image → Image → Type 0
HasCopies image other = (n : ℕ) → n < 2 → block_at image n ≡ block_at other n
