-- Directories: the items in an area of slots, and those of a whole directory.
use Rattle.std.specs.Prelude.{ℕ, zero, suc, ◌+◌, ◌-◌, ◌*◌, ◌/◌, Bool, not, ◌||◌, ◌&&◌, ◌==◌, nat_lt, if◌then◌else◌, List, [], ◌∷◌, map, flat_map, length, Option, Some, None}
use Rattle.f2_bytes.specs.Bits.{bit_lsb}
use Rattle.f2_bytes.specs.Bytes.{Block, bytes_at, number_at, numbers_below}
use Rattle.f2_bytes.specs.Names.{slots_for, is_legal_name}
use Rattle.f2_bytes.specs.Node.{is_inline, inline_length, inline_area, address_count, block_limit}

-- an entry as it stands: its place, the fields, and the bytes of the name
pub record Item : Type 0 where
  pub place : ℕ
  pub hash : ℕ
  pub ino : ℕ
  pub kind : ℕ
  pub len : ℕ
  pub name : List ℕ
  pub is_legal : Bool

-- An area has a bitmap of its slots at the start, the least bit of a byte first. Then come unused bytes, an entry of
-- 11 bytes for each slot, and the 8 bytes of a name for each slot.
module _ (area : List ℕ) (slots : ℕ) where
  -- where the entry and the name of a slot stand: both tables end with the area
  abbrev pub entry_start : ℕ → ℕ
  entry_start slot = length area - 19 * slots + 11 * slot

  abbrev pub name_start : ℕ → ℕ
  name_start slot = length area - 8 * slots + 8 * slot

  abbrev pub name_length : ℕ → ℕ
  name_length slot = number_at area (entry_start slot + 8) 2

  -- the name is too long, or goes past the last slot
  abbrev pub is_cut : ℕ → Bool
  is_cut slot = nat_lt 255 (name_length slot) || nat_lt slots (slot + slots_for (name_length slot))

  -- the item that begins in a slot
  abbrev pub item_in : ℕ → Item
  item_in slot =
      let name = bytes_at area (name_start slot) (name_length slot) in
      record {
        place = slot;
        hash = number_at area (entry_start slot) 4;
        ino = number_at area (entry_start slot + 4) 4;
        kind = number_at area (entry_start slot + 10) 1;
        len = name_length slot;
        name = name;
        is_legal = not (is_cut slot) && is_legal_name name;
      }

  -- where the scan goes on after a slot: behind the name, or at the end after one that is cut
  abbrev pub next_slot : ℕ → ℕ
  next_slot slot =
      if not (bit_lsb area slot) || (name_length slot == 0) then slot + 1
      else (if is_cut slot then slots else slot + slots_for (name_length slot))

  -- the items from a slot on, in at most n steps
  unfoldable pub items_from : ℕ → ℕ → List Item
  items_from zero slot = []
  items_from (suc n) slot =
      let rest = items_from n (next_slot slot) in
      if nat_lt slot slots then (if bit_lsb area slot then item_in slot ∷ rest else rest) else []

  -- the items of an area
  abbrev pub scan : List Item
  scan = items_from slots 0

-- the slots of a block, and of an inline area of this length
abbrev pub block_slots : ℕ
block_slots = 214

abbrev pub inline_slots : ℕ → ℕ
inline_slots length_of_area = 8 * length_of_area / 153

-- an item of block k of a directory, with its place in the directory
abbrev pub in_block : ℕ → Item → Item
in_block k item = record item { place = block_slots * k + item.place }

-- the items of block k of a directory
abbrev pub block_items : ℕ → Block → List Item
block_items k b = map (in_block k) (scan b block_slots)

abbrev pub optional_block_items : ℕ → Option Block → List Item
optional_block_items k None = []
optional_block_items k (Some b) = block_items k b

-- the items of the directory with this inode, where the function gives its blocks
unfoldable pub directory_items : Block → (ℕ → Option Block) → List Item
directory_items inode block =
    if is_inline inode
    then scan (inline_area inode) (inline_slots (inline_length inode))
    else flat_map (λ k. optional_block_items k (block k)) (numbers_below (block_limit (address_count inode)))
