-- What is dumped of a file: the fields and the addresses of its inode, and its bytes.
use Rattle.std.specs.Prelude.{ℕ, ◌+◌, ◌/◌, min, Bool, false, ◌||◌, ◌==◌, if◌then◌else◌, List, [], ◌∷◌, ◌++◌, take, flat_map, replicate, codes, decimal, Option, None, unwrap_or}
use Rattle.std.specs.Option.{option_map_or}
use Rattle.f2_bytes.specs.Bytes.{Block, Image, numbers_below}
use Rattle.f2_bytes.specs.Node.{address_count, address_word, block_limit, has_slots, inline_area, inode_rows, is_inline, is_regular, is_symlink, size}
use Rattle.f2_bytes.specs.Tree.{is_inode, main_block, read_node, tree_slot}
use Rattle.f2_dump.specs.Fields.{field_lines}

-- the names of an inode's fields
abbrev pub inode_names : List (List ℕ)
inode_names =
    codes "mode" ∷ codes "advise" ∷ codes "inline" ∷ codes "uid" ∷ codes "gid" ∷ codes "links" ∷ codes "size" ∷ codes "blocks"
    ∷ codes "atime" ∷ codes "ctime" ∷ codes "mtime" ∷ codes "atime_nsec" ∷ codes "ctime_nsec" ∷ codes "mtime_nsec" ∷ codes "generation"
    ∷ codes "current_depth" ∷ codes "xattr_nid" ∷ codes "flags" ∷ codes "pino" ∷ codes "namelen" ∷ codes "dir_level" ∷ codes "ext_fofs"
    ∷ codes "ext_addr" ∷ codes "ext_len" ∷ codes "nid[0]" ∷ codes "nid[1]" ∷ codes "nid[2]" ∷ codes "nid[3]" ∷ codes "nid[4]" ∷ []

-- the line of an address word that isn't 0
abbrev pub address_line : Block → ℕ → List ℕ
address_line b j =
    if address_word b j == 0 then [] else codes "addr " ++ decimal j ++ codes " " ++ decimal (address_word b j) ++ codes "\n"

-- the lines of the addresses in an inode
unfoldable pub address_lines : Block → List ℕ
address_lines b = flat_map (address_line b) (numbers_below (address_count b))

-- the lines of an inode: its fields, and its addresses where its words name blocks
abbrev pub inode_lines : Block → List ℕ
inode_lines b = field_lines inode_names inode_rows b ++ (if has_slots b then address_lines b else [])

-- what stands for a block that a file doesn't have
unfoldable pub zero_bytes : List ℕ
zero_bytes = replicate 4096 0

-- the bytes of a file's block at this address: zeros for a hole, a reserved block and an address outside the main area
abbrev pub piece : Image → ℕ → List ℕ
piece image address = unwrap_or (main_block image address) zero_bytes

-- how many blocks of a file are dumped: those of its size, up to the last one that it can have
abbrev pub file_blocks : Block → ℕ
file_blocks b = min ((size b + 4095) / 4096) (block_limit (address_count b))

-- the blocks of a file, one after the other
unfoldable pub pieces : Image → ℕ → ℕ → List ℕ
pieces image ino count = flat_map (λ k. piece image (tree_slot image ino k)) (numbers_below count)

-- the bytes of a file with this inode
abbrev pub file_bytes : Image → ℕ → Block → List ℕ
file_bytes image ino b = take (size b) (if is_inline b then inline_area b else pieces image ino (file_blocks b))

-- the inode with this number, if there is one
unfoldable pub inode_of : Image → ℕ → Option Block
inode_of image ino = if is_inode image ino then read_node image ino else None

-- a file whose bytes are dumped
abbrev pub has_bytes : Block → Bool
has_bytes b = is_regular b || is_symlink b

-- and one with this number
abbrev pub has_file : Image → ℕ → Bool
has_file image ino = option_map_or has_bytes (inode_of image ino) false
