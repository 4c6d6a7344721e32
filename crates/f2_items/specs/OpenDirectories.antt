-- What is kept of a directory while its items are read.
use Rattle.std.specs.Prelude.{◌≡◌, ℕ, ◌+◌, ◌*◌, ◌/◌, ◌≤◌, max, Bool, if◌then◌else◌, List, filter, fold, find, count_by, Option, Some, None, option_map}
use Rattle.f2_bytes.specs.Buckets.{bucket_of_block, level_of_block}
use Rattle.f2_bytes.specs.Bytes.{Block}
use Rattle.f2_bytes.specs.Directory.{Item, block_slots}
use Rattle.f2_bytes.specs.Names.{dot, dot_dot}
use Rattle.f2_bytes.specs.Node.{is_inline, links, size}
use Rattle.f2_bytes.specs.Object.{is_name}
use Rattle.f2_items.specs.FirstPlaces.{has_name, HoldsFirst}
use Rattle.f2_bytes.specs.Node.{current_depth, dir_level, has_inline_dots}
use Rattle.f2_items.specs.declared.directory_block.InBlock.{InBlock}
use Rattle.f2_items.specs.declared.open_directory.Dots.{Dots}
use Rattle.f2_items.specs.declared.open_directory.InodeFields.{InodeFields}
use Rattle.f2_items.specs.declared.open_directory.OpenDirectory.{OpenDirectory}
use Rattle.f2_items.specs.declared.item_reach.Reach.{Reach}
use Rattle.f2_view.specs.Directories.{legal}

-- what the first of these items with a name names
abbrev pub first_target : List ℕ → List Item → Option ℕ
first_target name items = option_map (λ item. item.ino) (find (has_name name) items)

pub record HoldsDots (items : List Item) (d : Dots) : Type 0 where
  pub dot_is : d.dot ≡ first_target dot items
  pub dot_dot_is : d.dot_dot ≡ first_target dot_dot items

-- one past the greatest level, and one past the greatest block, in which one of these items stands
abbrev pub one_past : (Item → ℕ) → List Item → ℕ
one_past value items = fold (λ most item. max most (1 + value item)) 0 items

pub record HoldsReach (depth : ℕ) (items : List Item) (r : Reach) : Type 0 where
  pub levels : r.levels ≡ one_past (λ item. level_of_block depth (item.place / block_slots)) items
  pub blocks : r.blocks ≡ one_past (λ item. item.place / block_slots) items

-- the same for a directory that stands in blocks
abbrev pub ReachesIn : Option ℕ → List Item → Reach → Type 0
ReachesIn None items r = Unit {0}
ReachesIn (Some depth) items r = HoldsReach depth items r

-- what the inode says
pub record Says (inode : Block) (f : InodeFields) : Type 0 where
  pub links_is : f.links ≡ links inode
  pub depth : f.current_depth ≡ current_depth inode
  pub size_is : f.size ≡ size inode
  pub level : f.dir_level ≡ dir_level inode
  pub inline : f.is_inline ≡ is_inline inode
  pub dots : f.may_lack_dots ≡ has_inline_dots inode

-- the depth of a directory that stands in blocks
abbrev pub depth_of : Block → Option ℕ
depth_of inode = if is_inline inode then None else Some (dir_level inode)

-- the directory with this inode has these items so far, where the test says which files are directories
pub record IsOpen (is_directory : ℕ → Bool) (ino : ℕ) (inode : Block) (items : List Item) (o : OpenDirectory) : Type 0 where
  pub number : o.ino ≡ ino
  pub says : Says inode o.inode
  pub places : HoldsFirst (legal items) o.places
  pub dots : HoldsDots (legal items) o.dots
  pub reach : ReachesIn (depth_of inode) (legal items) o.reach
  pub directories : o.directories ≡ count_by (λ item. is_directory item.ino) (filter is_name items)

-- a block of a directory of this depth, or none in a directory that stands in its inode
pub record IsBlockIn (depth : ℕ) (b : InBlock) : Type 0 where
  pub depth_is : b.dir_level ≡ depth
  pub level : b.level ≡ level_of_block depth b.number
  pub bucket : b.bucket ≡ bucket_of_block depth b.number

abbrev pub FitsDepth : Option ℕ → Option InBlock → Type 0
FitsDepth None None = Unit {0}
FitsDepth None (Some b) = ⊥
FitsDepth (Some depth) None = ⊥
FitsDepth (Some depth) (Some b) = IsBlockIn depth b

-- the slots from this place on are those of the block
abbrev pub LiesIn : ℕ → ℕ → Option InBlock → Type 0
LiesIn first slots None = Unit {0}
LiesIn first slots (Some b) = (first ≡ block_slots * b.number) × (slots ≤ block_slots)
