-- The tree of an image: each inode with the nodes that its nid slots lead to, and what they say.
use Rattle.std.specs.Prelude.{ℕ, zero, suc, ◌-◌, ◌^◌, Bool, false, ◌&&◌, ◌==◌, if◌then◌else◌, List, [], Option, Some, None, option_and_then, option_map}
use Rattle.std.specs.Option.{option_map_or}
use Rattle.f2_bytes.specs.Bytes.{Block, Image, block_at}
use Rattle.f2_bytes.specs.Superblock.{layout, is_main}
use Rattle.f2_bytes.specs.Node.{child_nid, parent_of, slot_of, has_slots, xattr_nid, is_directory}
use Rattle.f2_bytes.specs.Directory.{Item, directory_items}
use Rattle.f2_bytes.specs.NodeAddressTable.{nat}
use Rattle.f2_bytes.specs.Object.{Piece, hole, reserved, stored, Object, FileTree, object_of, gives_name}

-- the block at an address, where that lies in main
abbrev pub main_block : Image → ℕ → Option Block
main_block image address = if is_main (layout image) address then Some (block_at image address) else None

-- the node of a nid, where the table has it in main
unfoldable pub read_node : Image → ℕ → Option Block
read_node image nid = option_and_then (λ e. main_block image e.address) (nat image nid)

-- the nid that stands in a place of the node above
abbrev pub nid_in : ℕ × ℕ → Block → ℕ
nid_in spot above = child_nid spot.0 above spot.1

-- the node of a file at an offset, in at most n steps down from its inode
unfoldable pub node_within : ℕ → Image → ℕ → ℕ → Option Block
node_within zero image ino offset = if offset == 0 then read_node image ino else None
node_within (suc n) image ino offset =
    if offset == 0 then read_node image ino
    else option_and_then (λ spot. option_and_then (λ above. read_node image (nid_in spot above)) (node_within n image ino spot.0)) (parent_of offset)

-- the node of a file at an offset: no node stands deeper than three steps
abbrev pub tree_node : Image → ℕ → ℕ → Option Block
tree_node image ino offset = node_within 3 image ino offset

-- the node that is to hold the nid of a node: none such stands deeper than two steps
abbrev pub node_above : Image → ℕ → ℕ → Option Block
node_above image ino offset = node_within 2 image ino offset

-- whether the inode has nid slots
abbrev pub has_nid_slots : Image → ℕ → Bool
has_nid_slots image ino = option_map_or has_slots (read_node image ino) false

-- the nid in the nid slot with this offset, 0 where the node above is missing
unfoldable pub nid_slot : Image → ℕ → ℕ → ℕ
nid_slot image ino offset =
    if has_nid_slots image ino
    then option_map_or (λ spot. option_map_or (nid_in spot) (node_above image ino spot.0) 0) (parent_of offset) 0
    else 0

-- the address of block k of a file, 0 where a node is missing
unfoldable pub tree_slot : Image → ℕ → ℕ → ℕ
tree_slot image ino k = slot_of (tree_node image ino) k

-- what stands for a block at this address
abbrev pub piece_at : Image → ℕ → Piece
piece_at image address =
    if address == 2 ^ 32 - 1 then reserved
    else option_map_or stored (main_block image address) hole

-- the items of a directory
unfoldable pub tree_items : Image → ℕ → List Item
tree_items image ino = option_map_or (λ inode. directory_items inode (λ k. main_block image (tree_slot image ino k))) (read_node image ino) []

-- whether a directory gives this name to the file of this number
abbrev pub tree_names : Image → ℕ → Block → List ℕ → ℕ → Bool
tree_names image ino inode name target = is_directory inode && gives_name (tree_items image ino) name target

-- the object of an inode
abbrev pub tree_object : Image → ℕ → Block → Object
tree_object image ino inode =
    object_of inode (λ k. piece_at image (tree_slot image ino k)) (read_node image (xattr_nid inode)) (tree_names image ino inode)

-- an inode: a node that the table has as its own file
unfoldable pub is_inode : Image → ℕ → Bool
is_inode image nid = option_map_or (λ e. e.ino == nid) (nat image nid) false

-- the tree of an image
unfoldable pub tree : Image → FileTree
tree image ino = if is_inode image ino then option_map (tree_object image ino) (read_node image ino) else None
