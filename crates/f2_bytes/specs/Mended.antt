-- A mended image: what it has to do with the image that it was mended of.
use Rattle.std.specs.Prelude.{◌≡◌, ℕ, ◌+◌, ◌*◌, ◌/◌, ◌%◌, ◌<◌, ◌≤◌, Bool, ◌==◌, if◌then◌else◌, List, length, filter, count_by, Option, Some, None, option_map, unwrap_or, All, IsTrue, IsFalse}
use Rattle.std.specs.List.{list_any}
use Rattle.std.specs.Str.{bytes_eq}
use Rattle.f2_bytes.specs.Bytes.{Block, Image, block_at, bytes_at}
use Rattle.f2_bytes.specs.Checkpoint.{has_checkpoint, pack}
use Rattle.f2_bytes.specs.Journal.{are_journals_bounded}
use Rattle.f2_bytes.specs.Node.{mode, inline_flags, links, size, current_depth, dir_level, is_inline, has_slots, inline_area, attribute_offset}
use Rattle.f2_bytes.specs.Directory.{Item, block_slots}
use Rattle.f2_bytes.specs.Names.{dot, dot_dot, name_hash}
use Rattle.f2_bytes.specs.Buckets.{bucket_of, bucket_of_block, level_of_block}
use Rattle.f2_bytes.specs.Format.{new_attributes}
use Rattle.f2_bytes.specs.Object.{attributes_of, attribute_area_of, is_name}
use Rattle.f2_bytes.specs.RollForward.{node_block}
use Rattle.f2_bytes.specs.Tree.{tree_items}
use Rattle.f2_bytes.specs.Check.{none_value}
use Rattle.f2_bytes.specs.SalvagedFiles.{root, is_file, file_node, file_slot, is_owned}
use Rattle.f2_bytes.specs.Claims.{Claim}
use Rattle.f2_bytes.specs.LostFiles.{is_made}
use Rattle.f2_bytes.specs.Salvage.{names_in_directory}
use Rattle.f2_bytes.specs.RebuiltDirectories.{is_salvaged_file, is_rebuilt, salvaged_parent, salvage_reading}
use Rattle.f2_bytes.specs.Mending.{mended_address, mended_links}
use Rattle.f2_bytes.specs.FilePlaces.{FilePlaces, has_node, node_at, inode_at, HoldsFiles}

-- ---- inodes

-- The inode of a file that is no rebuilt directory, before and after: what may differ are its counts, its extent, its
-- nids and its address words.
pub record KeepsInode (b c : Block) : Type 0 where
  pub mode : mode c ≡ mode b
  pub flags : inline_flags c ≡ inline_flags b
  pub attributes : attributes_of c ≡ attributes_of b
  pub attribute_area : attribute_area_of c ≡ attribute_area_of b
  pub content : IsTrue (is_inline b) → inline_area c ≡ inline_area b
  pub device : IsFalse (has_slots b) → bytes_at c 360 8 ≡ bytes_at b 360 8
  pub size : size c ≡ size b
  pub depth : current_depth c ≡ current_depth b
  pub level : dir_level c ≡ dir_level b

-- the inode of a rebuilt directory: of the inline flags only that of attributes stays
pub record RebuildsInode (b c : Block) : Type 0 where
  pub mode : mode c ≡ mode b
  pub flags : inline_flags c ≡ inline_flags b % 2
  pub attributes : attributes_of c ≡ attributes_of b
  pub attribute_area : attribute_area_of c ≡ attribute_area_of b
  pub level : dir_level c ≡ 0

-- the inode of a directory that is made: only its owner may read it, and all its attributes are zeros
pub record IsMadeInode (c : Block) : Type 0 where
  pub mode : mode c ≡ 0x41C0
  pub flags : inline_flags c ≡ 0
  pub attributes : attributes_of c ≡ new_attributes 0x41C0 0
  pub level : dir_level c ≡ 0

-- ---- rebuilt directories

-- an item stands in a bucket of its hash
abbrev pub IsInBucket : Block → Item → Type 0
IsInBucket inode item =
    let block = item.place / block_slots in
    bucket_of_block (dir_level inode) block
    ≡ bucket_of (level_of_block (dir_level inode) block) (dir_level inode) (name_hash item.name)

-- The items of a rebuilt directory: `.`, `..` and its names, each once, in a bucket of its hash. `kind` gives the type
-- of a file, and `..` names the parent.
pub record HoldsNames (kind : ℕ → ℕ) (ino parent : ℕ) (names : List Claim) (inode : Block) (items : List Item)
    : Type 0 where
  pub legal : All (λ x. IsTrue x.is_legal) items
  pub apart : All (λ x. All (λ y. IsTrue (bytes_eq y.name x.name) → y.place ≡ x.place) items) items
  pub hashes : All (λ x. x.hash ≡ name_hash x.name) items
  pub buckets : All (IsInBucket inode) items
  pub kinds : All (λ x. x.kind ≡ kind x.ino) items
  pub depth : All (λ x. 1 + level_of_block (dir_level inode) (x.place / block_slots) ≤ current_depth inode) items
  pub size : All (λ x. 4096 * (1 + x.place / block_slots) ≤ size inode) items
  pub has_dot : IsTrue (list_any (λ x. bytes_eq x.name dot) items)
  pub has_dot_dot : IsTrue (list_any (λ x. bytes_eq x.name dot_dot) items)
  pub dots : All (λ x. IsTrue (bytes_eq x.name dot) → x.ino ≡ ino) items
  pub dot_dots : All (λ x. IsTrue (bytes_eq x.name dot_dot) → x.ino ≡ parent) items
  -- the others are its names: as many items as names pass each test
  pub same_names : (test : List ℕ → ℕ → Bool)
      → count_by (λ x. test x.name x.ino) (filter is_name items)
      ≡ count_by (λ c. test c.name c.target) names

-- what `..` of a directory names: the directory that has its name, and the root itself in the root
abbrev pub mended_dot_dot : Image → ℕ → ℕ
mended_dot_dot image ino = if ino == root then root else unwrap_or (salvaged_parent image ino) none_value

-- ---- the image

-- the node of a file at an offset, if it has one
abbrev pub optional_node : FilePlaces → Image → ℕ → ℕ → Option Block
optional_node p image ino offset = if has_node p ino offset then Some (node_at p image ino offset) else None

-- the bytes of an attribute node without its footer
abbrev pub attribute_bytes : Option Block → Option (List ℕ)
attribute_bytes o = option_map (λ b. bytes_at b 0 4072) o

-- The other image has the superblock copies of this one, a checkpoint, and the files of its salvage.
pub record IsMended (image other : Image) : Type 0 where
  pub same_length : length other ≡ length image
  pub copies : (n : ℕ) → n < 2 → block_at other n ≡ block_at image n
  pub checkpoint : IsTrue (has_checkpoint other)
  pub journals : IsTrue (are_journals_bounded (pack other))
  -- each file with its nodes and blocks
  pub places : FilePlaces
  pub placed : HoldsFiles places other
  pub files : (ino : ℕ) → places.has_file ino ≡ is_salvaged_file image ino
  -- the inodes
  pub kept_inodes : (ino : ℕ) (b : Block) → IsTrue (is_file image ino) → IsFalse (is_rebuilt image ino)
      → node_block image ino ≡ Some b → KeepsInode b (inode_at places other ino)
  pub rebuilt_inodes : (ino : ℕ) (b : Block) → IsTrue (is_file image ino) → IsTrue (is_rebuilt image ino)
      → node_block image ino ≡ Some b → RebuildsInode b (inode_at places other ino)
  pub made_inodes : (ino : ℕ) → IsTrue (is_made image ino) → IsMadeInode (inode_at places other ino)
  pub link_counts : (ino : ℕ) → IsTrue (is_salvaged_file image ino)
      → links (inode_at places other ino) ≡ mended_links image ino
  -- the attribute nodes
  pub attributes : (ino : ℕ) → IsTrue (is_file image ino)
      → attribute_bytes (optional_node places other ino attribute_offset)
      ≡ attribute_bytes (file_node image ino attribute_offset)
  pub made_attributes : (ino : ℕ) → IsTrue (is_made image ino)
      → IsFalse (has_node places ino attribute_offset)
  -- the blocks of files that are no rebuilt directories: those that a file owns stay, all others are holes or reserved
  pub kept_slots : (ino k : ℕ) → IsTrue (is_file image ino) → IsFalse (is_rebuilt image ino)
      → places.slot ino k ≡ mended_address image ino k
  pub kept_blocks : (ino k : ℕ) → IsTrue (is_file image ino) → IsFalse (is_rebuilt image ino)
      → IsTrue (is_owned image ino k) → block_at other (file_slot image ino k) ≡ block_at image (file_slot image ino k)
  -- the rebuilt directories
  pub rebuilt : (ino : ℕ) → IsTrue (is_rebuilt image ino)
      → HoldsNames ((salvage_reading image).kind) ino (mended_dot_dot image ino) (names_in_directory image ino)
      (inode_at places other ino) (tree_items other ino)
