-- What is kept of how many blocks files use.
use Rattle.std.specs.Prelude.{◌≡◌, ℕ, ◌==◌, false, List, map, length, Some}
use Rattle.std.specs.Option.{option_map_or}
use Rattle.f2_bytes.specs.Bytes.{Block, Image, numbers_below, count_below}
use Rattle.f2_bytes.specs.NodeAddressTable.{nat}
use Rattle.f2_bytes.specs.Check.{nids, inode_of}
use Rattle.f2_defects.specs.Collected.{Collects}
use Rattle.f2_survey.specs.Slots.{Slot, slots_below}
use Rattle.f2_items.specs.Visits.{found_below, capped}
use Rattle.f2_bytes.specs.Node.{blocks}
use Rattle.f2_files.specs.declared.rule_9_blocks.Usage.{Usage}

-- how many nodes the table has for a file
abbrev pub nodes_of : Image → ℕ → ℕ
nodes_of image ino = count_below (nids image) (λ nid. option_map_or (λ e. e.ino == ino) (nat image nid) false)

-- so many nodes has the file of each number
unfoldable pub CountsNodes : Image → List ℕ → Type 0
CountsNodes image counts = counts ≡ map (nodes_of image) (numbers_below (nids image))

-- every file with a number below n was visited
pub record UsageAfter (image : Image) (n : ℕ) (u : Usage) : Type 0 where
  pub nodes : CountsNodes image u.nodes.items
  pub part : u.defects.part ≡ 1
  pub defects : Collects u.defects (found_below image 9 1 n)
  pub used : u.used ≡ capped (length (slots_below image n))

-- and so were these slots of the next one
pub record UsageInside (image : Image) (ino : ℕ) (slots : List Slot) (u : Usage) : Type 0 where
  pub after : UsageAfter image ino u
  pub blocks : (inode : Block) → inode_of image ino ≡ Some inode → u.blocks ≡ blocks inode
  pub in_file : u.in_file ≡ capped (length slots)
