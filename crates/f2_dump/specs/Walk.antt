-- A walk through the blocks of a file.
use Rattle.std.specs.Prelude.{◌≡◌, ℕ, ◌-◌, ◌*◌, ◌≤◌, true, if◌then◌else◌, List, take, Some, None}
use Rattle.f2_bytes.specs.declared.layout.Layout.{Layout}
use Rattle.f2_bytes.specs.Bytes.{Block, Image}
use Rattle.f2_bytes.specs.Node.{address_count, has_slots}
use Rattle.f2_bytes.specs.Superblock.{IsInOrder}
use Rattle.f2_bytes.specs.Tree.{tree_node, tree_slot}
use Rattle.f2_dump.specs.declared.walking.File.{File}
use Rattle.f2_dump.specs.declared.walking.Reached.{Reached}
use Rattle.f2_dump.specs.Files.{piece, zero_bytes}

-- what is known of a file whatever the disk
pub record IsSteady (l : Layout) (f : File) : Type 0 where
  pub layout : f.layout ≡ l
  pub order : IsInOrder l
  pub addresses : f.addresses ≤ 923
  pub hole : f.hole ≡ zero_bytes

-- the file of an image
pub record IsFileOf (image : Image) (f : File) : Type 0 where
  pub inode : Block
  pub there : tree_node image f.ino 0 ≡ Some inode
  pub slots : has_slots inode ≡ true
  pub addresses : address_count inode ≡ f.addresses

-- the node that was read last is that of the file
pub record IsReached (image : Image) (ino : ℕ) (at : Reached) : Type 0 where
  pub node : tree_node image ino at.offset ≡ (if at.found then Some at.node else None)

-- the bytes of block k of a file of this size
abbrev pub part : Image → ℕ → ℕ → ℕ → List ℕ
part image ino size k = take (size - 4096 * k) (piece image (tree_slot image ino k))
