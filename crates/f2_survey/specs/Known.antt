-- What is kept of the nodes of an image, for each number that the node address table has an entry for.
use Rattle.std.specs.Prelude.{◌≡◌, ℕ, ◌-◌, ◌^◌, ◌<◌, ◌==◌, Bool, false, List, length, map, Option, unwrap_or, IfSome}
use Rattle.std.specs.Option.{option_map_or}
use Rattle.f2_bytes.specs.Bytes.{Block, Image, numbers_below}
use Rattle.f2_bytes.specs.Journal.{NatEntry}
use Rattle.f2_bytes.specs.Node.{mode, type_of_mode, node_offset}
use Rattle.f2_bytes.specs.NodeAddressTable.{nat, image_nat_entry}
use Rattle.f2_bytes.specs.Tree.{read_node}
use Rattle.f2_bytes.specs.Check.{nids, inode_of}

-- what is kept: the entries, the offset that each node says, and the type of each inode
pub record Known : Type 0 where
  pub entries : List NatEntry
  pub offsets : List ℕ
  pub kinds : List ℕ

-- there is one of each for every number, and numbers have 32 bits
pub record IsLevel (k : Known) : Type 0 where
  pub offsets : length k.offsets ≡ length k.entries
  pub kinds : length k.kinds ≡ length k.entries
  pub few : length k.entries < 2 ^ 32

-- the number is that of a node of this file
abbrev pub belongs_to : Image → ℕ → ℕ → Bool
belongs_to image nid ino = option_map_or (λ e. e.ino == ino) (nat image nid) false

-- the offset that the node of this number says; the greatest number of 32 bits where there is none in the main area
abbrev pub offset_said : Image → ℕ → ℕ
offset_said image nid = option_map_or node_offset (read_node image nid) (2 ^ 32 - 1)

-- the type of an inode, and that of this number: 0 where there is none in the main area, 8 where its mode has none
abbrev pub type_said : Option Block → ℕ
type_said o = option_map_or (λ b. unwrap_or (type_of_mode (mode b)) 8) o 0

abbrev pub kind_said : Image → ℕ → ℕ
kind_said image nid = type_said (inode_of image nid)

-- this is kept of the image
pub record IsKnown (image : Image) (k : Known) : Type 0 where
  pub entries : k.entries ≡ map (image_nat_entry image) (numbers_below (nids image))
  pub offsets : k.offsets ≡ map (offset_said image) (numbers_below (nids image))
  pub kinds : k.kinds ≡ map (kind_said image) (numbers_below (nids image))
  -- no node says an offset of more than 29 bits
  pub small : (nid : ℕ) → IfSome (read_node image nid) (λ b. node_offset b < 2 ^ 29)
