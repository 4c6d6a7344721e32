-- What is kept of files on the first tour over them.
use Rattle.std.specs.Prelude.{◌≡◌, ℕ, suc, false, Bool, ◌&&◌, if◌then◌else◌, List, [], ◌++◌, filter_map, Option, Some, option_map}
use Rattle.f2_bytes.specs.Bytes.{Block, Image}
use Rattle.f2_bytes.specs.Node.{is_directory, has_slots}
use Rattle.f2_bytes.specs.Tree.{main_block}
use Rattle.f2_files.specs.Addresses.{HasAddresses}
use Rattle.f2_bytes.specs.Check.{inode_of}
use Rattle.f2_defects.specs.Collected.{Collection, Collects}
use Rattle.f2_items.specs.Directories.{DirectoriesAfter, DirectoriesInside}
use Rattle.f2_files.specs.Extents.{ExtentsAfter, ExtentsInside}
use Rattle.f2_survey.specs.Slots.{Slot, slots_below}
use Rattle.f2_files.specs.Usage.{UsageAfter, UsageInside}
use Rattle.f2_items.specs.Visits.{found_below}
use Rattle.f2_files.specs.declared.kept_of_files.Kept.{Kept}

-- the block that a slot names, with its number in the file
abbrev pub slot_block : Image → Slot → Option (ℕ × Block)
slot_block image s = option_map (λ b. (s.k, b)) (main_block image s.address)

-- the blocks of these slots, where the file is a directory that stands in blocks
abbrev pub blocks_among : Image → Bool → List Slot → List (ℕ × Block)
blocks_among image in_blocks slots = if in_blocks then filter_map (slot_block image) slots else []

-- the attribute nodes of the files below n were compared
pub record HasAttributes (image : Image) (n : ℕ) (c : Collection) : Type 0 where
  pub part : c.part ≡ 1
  pub defects : Collects c (found_below image 12 1 n)

-- every file with a number below n was visited
pub record KeptAfter (image : Image) (n : ℕ) (k : Kept) : Type 0 where
  pub addresses : HasAddresses image (slots_below image n) k.addresses
  pub usage : UsageAfter image n k.usage
  pub extents : ExtentsAfter image n k.extents
  pub attributes : HasAttributes image n k.attributes
  pub directories : k.addresses.owners.spoiled ≡ false → DirectoriesAfter image n k.directories

-- and so were these slots of the next one
pub record KeptInside (image : Image) (ino : ℕ) (slots : List Slot) (k : Kept) : Type 0 where
  pub addresses : HasAddresses image (slots_below image ino ++ slots) k.addresses
  pub usage : UsageInside image ino slots k.usage
  pub extents : ExtentsInside image ino slots k.extents
  pub attributes : HasAttributes image (suc ino) k.attributes
  pub in_blocks : (inode : Block) → inode_of image ino ≡ Some inode → k.in_blocks ≡ (is_directory inode && has_slots inode)
  pub directories : k.addresses.owners.spoiled ≡ false → DirectoriesInside image ino (blocks_among image k.in_blocks slots) k.directories
