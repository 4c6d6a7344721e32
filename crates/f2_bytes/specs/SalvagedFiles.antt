-- The files that can be salvaged of any image, by what the footers of its nodes say, and the blocks that each owns.
use Rattle.std.specs.Prelude.{ℕ, ◌-◌, ◌^◌, Bool, false, not, ◌&&◌, ◌==◌, if◌then◌else◌, List, [], map, filter, find, flat_map, Option, Some, None, option_and_then, option_map}
use Rattle.std.specs.Option.{option_map_or, option_or}
use Rattle.std.specs.List.{list_any}
use Rattle.f2_bytes.specs.Bytes.{Block, Image, block_at, numbers_below}
use Rattle.f2_bytes.specs.Superblock.{layout, is_main}
use Rattle.f2_bytes.specs.Checkpoint.{orphans, pack}
use Rattle.f2_bytes.specs.Node.{footer_nid, footer_ino, node_offset, has_type, is_directory, slot_of, most_blocks}
use Rattle.f2_bytes.specs.Directory.{Item, directory_items}
use Rattle.f2_bytes.specs.RollForward.{chain_node, is_counting, last_in_chain, chain_address, found_place, node_block}
use Rattle.f2_bytes.specs.Object.{Piece, hole, reserved, stored}
use Rattle.f2_bytes.specs.Check.{nids}

-- ---- files and their nodes

-- the number of the root directory
abbrev pub root : ℕ
root = 3

-- whether there is a value that passes the test
abbrev pub passes_test : {A : Type 0} → (A → Bool) → Option A → Bool
passes_test test o = option_map_or test o false

-- the checkpoint lists the inode as one without a name, to be deleted
abbrev pub is_orphan : Image → ℕ → Bool
is_orphan image ino = list_any (λ x. x == ino) (orphans (pack image))

-- a file is an inode of a known type that is no orphan
unfoldable pub is_file : Image → ℕ → Bool
is_file image ino =
    passes_test (λ b. (footer_ino b == ino) && (node_offset b == 0) && has_type b) (node_block image ino)
    && not (is_orphan image ino)

abbrev pub is_directory_file : Image → ℕ → Bool
is_directory_file image ino = is_file image ino && passes_test is_directory (node_block image ino)

-- the files, and the directories among them, in order
abbrev pub files : Image → List ℕ
files image = filter (is_file image) (numbers_below (nids image))

abbrev pub directories : Image → List ℕ
directories image = filter (is_directory_file image) (numbers_below (nids image))

-- a node whose footer says that it stands at this offset of a file
abbrev pub is_node_at : Image → ℕ → ℕ → ℕ → Bool
is_node_at image ino offset nid =
    passes_test (λ b. (footer_ino b == ino) && (node_offset b == offset)) (node_block image nid)

-- place n of the chain has the block of such a node
abbrev pub is_chain_node_at : Image → ℕ → ℕ → ℕ → Bool
is_chain_node_at image ino offset n =
    let nid = footer_nid (chain_node image n) in
    is_counting image n
    && passes_test (λ at. at.address == chain_address image n) (found_place image nid)
    && is_node_at image ino offset nid

-- the nid of the node of a file at an offset: the last one in the chain, else the least
unfoldable pub nid_at : Image → ℕ → ℕ → Option ℕ
nid_at image ino offset =
    if offset == 0 then Some ino
    else option_or
    (option_map (λ n. footer_nid (chain_node image n)) (last_in_chain image (is_chain_node_at image ino offset)))
    (find (is_node_at image ino offset) (numbers_below (nids image)))

abbrev pub file_node : Image → ℕ → ℕ → Option Block
file_node image ino offset = option_and_then (node_block image) (nid_at image ino offset)

-- ---- blocks

-- the address of block k of a file, 0 where a node is missing
unfoldable pub file_slot : Image → ℕ → ℕ → ℕ
file_slot image ino k = slot_of (file_node image ino) k

-- some node stands at this address
unfoldable pub is_node_address : Image → ℕ → Bool
is_node_address image address =
    list_any (λ nid. passes_test (λ at. at.address == address) (found_place image nid)) (numbers_below (nids image))

-- every file with every number of a block, in order
unfoldable pub slot_places : Image → List (ℕ × ℕ)
slot_places image = flat_map (λ ino. map (λ k. (ino, k)) (numbers_below most_blocks)) (files image)

-- the first file and block with this address
unfoldable pub owner : Image → ℕ → Option (ℕ × ℕ)
owner image address = find (λ place. file_slot image place.0 place.1 == address) (slot_places image)

-- a file owns its block k: that lies in main, is no node's, and no other file or block with the address comes before
unfoldable pub is_owned : Image → ℕ → ℕ → Bool
is_owned image ino k =
    let address = file_slot image ino k in
    is_main (layout image) address
    && not (is_node_address image address)
    && passes_test (λ place. (place.0 == ino) && (place.1 == k)) (owner image address)

abbrev pub owned_block : Image → ℕ → ℕ → Option Block
owned_block image ino k = if is_owned image ino k then Some (block_at image (file_slot image ino k)) else None

-- what stands for block k of a file
abbrev pub file_piece : Image → ℕ → ℕ → Piece
file_piece image ino k =
    if file_slot image ino k == 2 ^ 32 - 1 then reserved
    else option_map_or stored (owned_block image ino k) hole

-- the items of a directory, inline or in the blocks that it owns
unfoldable pub file_items : Image → ℕ → List Item
file_items image ino = option_map_or (λ inode. directory_items inode (owned_block image ino)) (node_block image ino) []
