-- The slots of an image's files that aren't holes, and the rows of words in which they stand.
use Rattle.std.specs.Prelude.{ℕ, ◌+◌, ◌*◌, ◌==◌, if◌then◌else◌, List, [], ◌∷◌, map, length, get_or, filter, flat_map, filter_map, Option, Some, None, option_map}
use Rattle.f2_bytes.specs.Bytes.{Block, Image, word, numbers_below}
use Rattle.f2_bytes.specs.Node.{address_count, address_word, has_slots, offset_limit}
use Rattle.f2_bytes.specs.Tree.{read_node, tree_node, tree_slot, is_inode}
use Rattle.f2_bytes.specs.Check.{nids, nid_of_spot, spot_of}
use Rattle.f2_bytes.specs.Node.{is_direct, most_blocks}
use Rattle.f2_bytes.specs.Tree.{nid_slot}

-- block k of a file has this address, which stands in this place of this node
pub record Slot : Type 0 where
  pub ino : ℕ
  pub k : ℕ
  pub address : ℕ
  pub nid : ℕ
  pub place : ℕ

-- the slot of block k of a file, if it is no hole
abbrev pub slot_at : Image → ℕ → ℕ → Option Slot
slot_at image ino k =
    if tree_slot image ino k == 0 then None
    else Some (record { ino = ino; k = k; address = tree_slot image ino k; nid = nid_of_spot image (ino, k); place = (spot_of image (ino, k)).1 })

-- the slots of a file in the order of its blocks, and those of all files with a number below n
unfoldable pub file_slots : Image → ℕ → List Slot
file_slots image ino = filter_map (slot_at image ino) (numbers_below most_blocks)

abbrev pub slots_below : Image → ℕ → List Slot
slots_below image n = flat_map (file_slots image) (filter (is_inode image) (numbers_below n))

abbrev pub all_slots : Image → List Slot
all_slots image = slots_below image (nids image)

-- a row of address words: those of an inode, or of a direct node; the first is that of block `first` of the file
pub record Row : Type 0 where
  pub ino : ℕ
  pub nid : ℕ
  pub first : ℕ
  pub words : List ℕ

-- the slots in a row
abbrev pub slot_in_row : Row → ℕ → Option Slot
slot_in_row row j =
    if get_or row.words j 0 == 0 then None
    else Some (record { ino = row.ino; k = row.first + j; address = get_or row.words j 0; nid = row.nid; place = j })

unfoldable pub row_slots : Row → List Slot
row_slots row = filter_map (slot_in_row row) (numbers_below (length row.words))

-- how many direct nodes of a file stand before the one at this offset
abbrev pub direct_before : ℕ → ℕ
direct_before offset = length (filter is_direct (numbers_below offset))

-- the row in an inode, and that in the direct node at an offset
abbrev pub inode_row_of : ℕ → Block → Row
inode_row_of ino b = record { ino = ino; nid = ino; first = 0; words = map (address_word b) (numbers_below (address_count b)) }

abbrev pub node_row_of : ℕ → Block → ℕ → ℕ → Block → Row
node_row_of ino inode nid offset b =
    record { ino = ino; nid = nid; first = address_count inode + 1018 * direct_before offset; words = map (word b) (numbers_below 1018) }

-- the offsets of direct nodes, in order
unfoldable pub direct_offsets : List ℕ
direct_offsets = filter is_direct (numbers_below offset_limit)

-- the rows of a file with this inode, in the order of its blocks
abbrev pub rows_in : Image → ℕ → Block → List Row
rows_in image ino inode =
    if has_slots inode
    then inode_row_of ino inode ∷ filter_map (λ offset. option_map (node_row_of ino inode (nid_slot image ino offset) offset) (tree_node image ino offset)) direct_offsets
    else []

abbrev pub optional_rows : Image → ℕ → Option Block → List Row
optional_rows image ino None = []
optional_rows image ino (Some inode) = rows_in image ino inode

unfoldable pub file_rows : Image → ℕ → List Row
file_rows image ino = optional_rows image ino (read_node image ino)
