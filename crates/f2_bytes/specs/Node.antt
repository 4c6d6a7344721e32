-- Nodes: the footer, the fields of an inode, and where the blocks of a file have their addresses.
use Rattle.std.specs.Prelude.{ℕ, suc, ◌+◌, ◌-◌, ◌*◌, ◌/◌, ◌%◌, ◌^◌, Bool, not, ◌||◌, ◌&&◌, ◌==◌, nat_le, nat_lt, if◌then◌else◌, List, [], ◌∷◌, position, Option, Some, None, option_map, is_some}
use Rattle.f2_bytes.specs.declared.fields.Field.{Field}
use Rattle.f2_bytes.specs.Bytes.{Block, bytes_at, word, has_bit}
use Rattle.f2_bytes.specs.Fields.{field, field_at}

-- the rows of a node's footer: its nid, its inode, its flags, the version of a checkpoint, the next node written
abbrev pub footer_rows : List Field
footer_rows = field 4072 4 ∷ field 4076 4 ∷ field 4080 4 ∷ field 4084 8 ∷ field 4092 4 ∷ []

abbrev pub footer_row : Block → ℕ → ℕ
footer_row b k = field_at footer_rows b k

abbrev pub footer_nid : Block → ℕ
footer_nid b = footer_row b 0

abbrev pub footer_ino : Block → ℕ
footer_ino b = footer_row b 1

abbrev pub footer_flag : Block → ℕ
footer_flag b = footer_row b 2

abbrev pub footer_cp_ver : Block → ℕ
footer_cp_ver b = footer_row b 3

abbrev pub footer_next : Block → ℕ
footer_next b = footer_row b 4

-- an fsync wrote the node; its file has a name that is to be added
abbrev pub has_fsync_mark : Block → Bool
has_fsync_mark b = has_bit (footer_flag b) 1

abbrev pub has_dentry_mark : Block → Bool
has_dentry_mark b = has_bit (footer_flag b) 2

-- the node's place among those of its file
abbrev pub node_offset : Block → ℕ
node_offset b = footer_flag b / 8

-- the rows of an inode
abbrev pub inode_rows : List Field
inode_rows =
    field 0 2 ∷ field 2 1 ∷ field 3 1 ∷ field 4 4 ∷ field 8 4 ∷ field 12 4 ∷ field 16 8 ∷ field 24 8
    ∷ field 32 8 ∷ field 40 8 ∷ field 48 8 ∷ field 56 4 ∷ field 60 4 ∷ field 64 4 ∷ field 68 4 ∷ field 72 4
    ∷ field 76 4 ∷ field 80 4 ∷ field 84 4 ∷ field 88 4 ∷ field 347 1 ∷ field 348 4 ∷ field 352 4 ∷ field 356 4
    ∷ field 4052 4 ∷ field 4056 4 ∷ field 4060 4 ∷ field 4064 4 ∷ field 4068 4 ∷ []

-- row k of the inode in block b
abbrev pub inode_row : Block → ℕ → ℕ
inode_row b k = field_at inode_rows b k

abbrev pub mode : Block → ℕ
mode b = inode_row b 0

abbrev pub inline_flags : Block → ℕ
inline_flags b = inode_row b 2

abbrev pub links : Block → ℕ
links b = inode_row b 5

abbrev pub size : Block → ℕ
size b = inode_row b 6

-- the number of blocks that the file takes, its nodes among them
abbrev pub blocks : Block → ℕ
blocks b = inode_row b 7

-- how many levels of its buckets a directory uses
abbrev pub current_depth : Block → ℕ
current_depth b = inode_row b 15

abbrev pub xattr_nid : Block → ℕ
xattr_nid b = inode_row b 16

-- by how much the number of buckets of a directory is raised
abbrev pub dir_level : Block → ℕ
dir_level b = inode_row b 20

-- the extent: its first block in the file, the address of that block, and its length
abbrev pub ext_fofs : Block → ℕ
ext_fofs b = inode_row b 21

abbrev pub ext_addr : Block → ℕ
ext_addr b = inode_row b 22

abbrev pub ext_len : Block → ℕ
ext_len b = inode_row b 23

-- nid j of the five in an inode, and address word j
abbrev pub inode_nid : Block → ℕ → ℕ
inode_nid b j = word b (1013 + j)

abbrev pub address_word : Block → ℕ → ℕ
address_word b j = word b (90 + j)

abbrev pub has_inline_xattr : Block → Bool
has_inline_xattr b = has_bit (inline_flags b) 0

abbrev pub has_inline_data : Block → Bool
has_inline_data b = has_bit (inline_flags b) 1

abbrev pub has_inline_dentry : Block → Bool
has_inline_dentry b = has_bit (inline_flags b) 2

-- a directory may do without `.` and `..`
abbrev pub has_inline_dots : Block → Bool
has_inline_dots b = has_bit (inline_flags b) 4

-- the type of a file, as directory entries number it: 1 regular, 2 directory, 3 character, 4 block, 5 fifo, 6 socket, 7 symlink
abbrev pub type_of_mode : ℕ → Option ℕ
type_of_mode m = option_map suc (position (λ high. high == m / 4096) (8 ∷ 4 ∷ 2 ∷ 6 ∷ 1 ∷ 12 ∷ 10 ∷ []))

abbrev pub has_type : Block → Bool
has_type b = is_some (type_of_mode (mode b))

abbrev pub is_regular : Block → Bool
is_regular b = mode b / 4096 == 8

abbrev pub is_directory : Block → Bool
is_directory b = mode b / 4096 == 4

abbrev pub is_symlink : Block → Bool
is_symlink b = mode b / 4096 == 10

abbrev pub is_device : Block → Bool
is_device b = (mode b / 4096 == 2) || (mode b / 4096 == 6)

-- the content, or the names of a directory, stand in the inode
abbrev pub is_inline : Block → Bool
is_inline b = ((is_regular b || is_symlink b) && has_inline_data b) || (is_directory b && has_inline_dentry b)

-- the address words of the file name blocks
abbrev pub has_slots : Block → Bool
has_slots b = (is_regular b || is_symlink b || is_directory b) && not (is_inline b)

-- how many address words of an inode name blocks
unfoldable pub address_count : Block → ℕ
address_count b = if has_inline_xattr b || has_inline_dentry b then 873 else 923

-- the length of the inline area, which begins at byte 364, and its bytes
abbrev pub inline_length : Block → ℕ
inline_length b = 4 * (address_count b - 1)

unfoldable pub inline_area : Block → List ℕ
inline_area b = bytes_at b 364 (inline_length b)

-- how many blocks a file of an inode with n address words can have
abbrev pub block_limit : ℕ → ℕ
block_limit n = n + 2 * 1018 + 2 * 1018 ^ 2 + 1018 ^ 3

-- no file has a block with this number or a greater one
unfoldable pub most_blocks : ℕ
most_blocks = block_limit 923

-- the node offset and the place in that node of block k of a file, in an inode with n address words
unfoldable pub locate : ℕ → ℕ → Option (ℕ × ℕ)
locate k n =
    if nat_lt k n then Some (0, k)
    else (if nat_lt k (n + 1018) then Some (1, k - n)
    else (if nat_lt k (n + 2 * 1018) then Some (2, k - n - 1018)
    else (let p = k - n - 2 * 1018 in
    if nat_lt p (1018 ^ 2) then Some (4 + p / 1018, p % 1018)
    else (let p = k - n - 2 * 1018 - 1018 ^ 2 in
    if nat_lt p (1018 ^ 2) then Some (1023 + p / 1018, p % 1018)
    else (let p = k - n - 2 * 1018 - 2 * 1018 ^ 2 in
    if nat_lt p (1018 ^ 3)
    then Some (2043 + 1019 * (p / 1018 ^ 2) + p % 1018 ^ 2 / 1018, p % 1018)
    else None)))))

-- the offset that all nodes in the tree of a file are below
unfoldable pub offset_limit : ℕ
offset_limit = 1039384

-- the offset of the attribute node
abbrev pub attribute_offset : ℕ
attribute_offset = 0x1FFFFFFF

-- a node at this offset holds addresses of blocks, and not nids
abbrev pub is_direct : ℕ → Bool
is_direct o = nat_lt 0 o && nat_lt o offset_limit && not (o == 3) && not (o == 1022) && not (o == 2041) && not (nat_le 2042 o && ((o - 2042) % 1019 == 0))

-- the offset of the node above the one at this offset, and the place there that names it
unfoldable pub parent_of : ℕ → Option (ℕ × ℕ)
parent_of o =
    if o == 0 then None
    else (if nat_le o 3 then Some (0, o - 1)
    else (if nat_lt o 1022 then Some (3, o - 4)
    else (if o == 1022 then Some (0, 3)
    else (if nat_lt o 2041 then Some (1022, o - 1023)
    else (if o == 2041 then Some (0, 4)
    else (if nat_lt o offset_limit
    then (if (o - 2042) % 1019 == 0
    then Some (2041, (o - 2042) / 1019)
    else Some (2042 + 1019 * ((o - 2042) / 1019), (o - 2042) % 1019 - 1))
    else None))))))

-- the nid in place j of the node at offset o, and the address there
abbrev pub child_nid : ℕ → Block → ℕ → ℕ
child_nid o b j = if o == 0 then inode_nid b j else word b j

abbrev pub child_address : ℕ → Block → ℕ → ℕ
child_address o b j = if o == 0 then address_word b j else word b j

-- the address of block k of a file, where the function gives its node at each offset; 0 where a node is missing
abbrev pub word_in : ℕ × ℕ → Option Block → ℕ
word_in spot None = 0
word_in spot (Some b) = child_address spot.0 b spot.1

abbrev pub word_at_spot : (ℕ → Option Block) → Option (ℕ × ℕ) → ℕ
word_at_spot nodes None = 0
word_at_spot nodes (Some spot) = word_in spot (nodes spot.0)

abbrev pub slot_in : (ℕ → Option Block) → Option Block → ℕ → ℕ
slot_in nodes None k = 0
slot_in nodes (Some inode) k = if has_slots inode then word_at_spot nodes (locate k (address_count inode)) else 0

abbrev pub slot_of : (ℕ → Option Block) → ℕ → ℕ
slot_of nodes k = slot_in nodes (nodes 0) k
