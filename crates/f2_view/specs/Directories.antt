-- The entries of a directory.
use Rattle.std.specs.Prelude.{◌≡◌, ℕ, zero, suc, ◌+◌, ◌*◌, ◌^◌, ◌≤◌, if◌then◌else◌, ◌++◌, List, [], length, map, flat_map, filter, true, Option, Some, None}
use Rattle.f2_bytes.specs.Bytes.{Block, Image, bytes_at, word, numbers_below}
use Rattle.f2_bytes.specs.Directory.{Item, optional_block_items, scan, inline_slots}
use Rattle.f2_bytes.specs.Node.{address_count, address_word, inode_nid, is_inline, has_slots, inline_area, inline_length}
use Rattle.f2_bytes.specs.Tree.{main_block, read_node}
use Rattle.f2_dent.specs.declared.scan.Item.{Item as Scanned}
use Rattle.f2_view.specs.Mounted.{Mounted, IsMountOf}
use Rattle.f2_view.specs.declared.directories.Named.{Named}

-- the item that an entry is: only those with a legal name are entries
abbrev pub item_of : Named → Item
item_of n = record { place = n.place; hash = n.hash; ino = n.ino; kind = n.kind; len = length n.name; name = n.name; is_legal = true }

abbrev pub legal : List Item → List Item
legal items = filter (λ item. item.is_legal) items

-- an item of an area whose first slot has this place in the directory
abbrev pub shifted : ℕ → Item → Item
shifted first item = record item { place = first + item.place }

-- an item that a scan of the area gives, so shifted
abbrev pub kept : List ℕ → ℕ → Scanned → Item
kept area first item = record {
  place = first + item.slot;
  hash = item.hash;
  ino = item.ino;
  kind = item.kind;
  len = item.len;
  name = bytes_at area item.at item.len;
  is_legal = item.legal;
}

-- its name lies in the area, and can be an entry's
pub record IsNamed (area : List ℕ) (item : Scanned) : Type 0 where
  pub some : 1 ≤ item.len
  pub few : item.len ≤ 255
  pub inside : item.at + item.len ≤ length area

-- what a function gives for the 1018 numbers of a node, and nothing where it is missing
abbrev pub each_number : (ℕ → ℕ → List Item) → Option Block → List Item
each_number f None = []
each_number f (Some b) = flat_map (λ j. f j (word b j)) (numbers_below 1018)

-- The items of block `first` of a directory, which has this address. At a greater height h those of the 1018 ^ h blocks
-- from that one on, to which the node of a nid leads in h steps.
unfoldable pub items_under : Image → ℕ → ℕ → ℕ → List Item
items_under image zero first address = optional_block_items first (main_block image address)
items_under image (suc h) first nid = each_number (λ j number. items_under image h (first + j * 1018 ^ h) number) (read_node image nid)

-- the items in the blocks that the address words of an inode name
abbrev pub word_items : Image → Block → List Item
word_items image inode = flat_map (λ j. items_under image 0 j (address_word inode j)) (numbers_below (address_count inode))

-- and those of the blocks that its five nids lead to
abbrev pub nid_items : Image → Block → List Item
nid_items image inode =
    items_under image 1 (address_count inode) (inode_nid inode 0)
    ++ items_under image 1 (address_count inode + 1018) (inode_nid inode 1)
    ++ items_under image 2 (address_count inode + 2 * 1018) (inode_nid inode 2)
    ++ items_under image 2 (address_count inode + 2 * 1018 + 1018 ^ 2) (inode_nid inode 3)
    ++ items_under image 3 (address_count inode + 2 * 1018 + 2 * 1018 ^ 2) (inode_nid inode 4)

-- the items of the directory with this inode
abbrev pub inode_items : Image → Block → List Item
inode_items image inode =
    if is_inline inode then scan (inline_area inode) (inline_slots (inline_length inode))
    else (if has_slots inode then word_items image inode ++ nid_items image inode else [])

-- The entries that a reading of a mounted image adds are the legal ones among these items.
abbrev pub Adds : Option Image → Mounted → List Named → List Named → (Image → List Item) → Type 0
Adds told m old new items = (image : Image) → told ≡ Some image → IsMountOf image m → map item_of new ≡ map item_of old ++ legal (items image)
