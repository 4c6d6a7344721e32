-- What a file holds, wherever its blocks stand.
use Rattle.std.specs.Prelude.{ℕ, Bool, not, ◌&&◌, ◌==◌, if◌then◌else◌, List, [], ◌++◌, Option, Some, None, option_map, unwrap_or}
use Rattle.std.specs.List.{list_any}
use Rattle.std.specs.Str.{bytes_eq}
use Rattle.f2_bytes.specs.Bytes.{Block, bytes_at}
use Rattle.f2_bytes.specs.Node.{mode, type_of_mode, is_directory, is_device, is_inline, has_slots, has_inline_xattr, inline_area}
use Rattle.f2_bytes.specs.Directory.{Item}
use Rattle.f2_bytes.specs.Names.{is_dots}

-- what stands for block k of a file: nothing, a reserved block, or these bytes
pub data Piece : Type 0 where
  hole : Piece
  reserved : Piece
  stored : List ℕ → Piece

-- the content of a file: in the inode, in blocks, as a device's numbers, or none
pub data Content : Type 0 where
  inline : List ℕ → Content
  in_blocks : (ℕ → Piece) → Content
  device : List ℕ → Content
  empty : Content

pub record Object : Type 0 where
  pub kind : ℕ
  pub attributes : List ℕ
  pub content : Content
  pub attribute_area : Option (List ℕ)
  pub attribute_node : Option (List ℕ)
  -- for a directory, whether it gives this name to the file of this number
  pub names : List ℕ → ℕ → Bool

-- a tree: the file of each number
abbrev pub FileTree : Type 0
FileTree = ℕ → Option Object

-- mode and advice, owners, times and generation, flags, and but for a directory the size
unfoldable pub attributes_of : Block → List ℕ
attributes_of inode =
    bytes_at inode 0 3 ++ bytes_at inode 4 8 ++ bytes_at inode 32 40 ++ bytes_at inode 80 4
    ++ (if is_directory inode then [] else bytes_at inode 16 8)

-- the attribute bytes in the inode
unfoldable pub attribute_area_of : Block → Option (List ℕ)
attribute_area_of inode = if has_inline_xattr inode then Some (bytes_at inode 3852 200) else None

-- the content, where the function gives its blocks
unfoldable pub content_of : Block → (ℕ → Piece) → Content
content_of inode piece =
    if is_directory inode then empty
    else (if is_inline inode then inline (inline_area inode)
    else (if has_slots inode then in_blocks piece
    else (if is_device inode then device (bytes_at inode 360 8)
    else empty)))

-- the object with this inode, these blocks, this attribute node and these names
abbrev pub object_of : Block → (ℕ → Piece) → Option Block → (List ℕ → ℕ → Bool) → Object
object_of inode piece attribute_node names = record {
  kind = unwrap_or (type_of_mode (mode inode)) 0;
  attributes = attributes_of inode;
  content = content_of inode piece;
  attribute_area = attribute_area_of inode;
  attribute_node = option_map (λ b. bytes_at b 0 4072) attribute_node;
  names = names;
}

-- the item is a name, other than `.` and `..`
abbrev pub is_name : Item → Bool
is_name item = item.is_legal && not (is_dots item.name)

-- whether one of the items gives this name to the file of this number
abbrev pub gives_name : List Item → List ℕ → ℕ → Bool
gives_name items name ino = list_any (λ item. is_name item && bytes_eq item.name name && (item.ino == ino)) items
