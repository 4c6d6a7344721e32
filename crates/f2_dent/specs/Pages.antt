-- A block of a directory that is being built.
use Rattle.std.specs.Prelude.{◌≡◌, ◌⊎◌, ℕ, ◌+◌, ◌≤◌, ◌<◌, Bool, false, not, ◌&&◌, ◌||◌, nat_le, nat_lt, List, [], ◌∷◌, ◌++◌, length}
use Rattle.std.specs.List.{list_any, range_with_len}
use Rattle.byteorder.specs.Endian.{little_bytes}
use Rattle.f2_bytes.specs.Bits.{bit_lsb}
use Rattle.f2_bytes.specs.Directory.{Item, block_slots, item_in, name_length}
use Rattle.f2_bytes.specs.Names.{slots_for, is_legal_name}

-- so many slots from this one on are free, and lie below the limit
unfoldable pub is_run : ℕ → List ℕ → ℕ → ℕ → Bool
is_run limit map slots slot = nat_le (slot + slots) limit && not (list_any (bit_lsb map) (range_with_len slot slots))

-- no run of free slots is longer
pub record HasRoom (map : List ℕ) (room : ℕ) : Type 0 where
  pub runs : (slots slot : ℕ) → room < slots → is_run block_slots map slots slot ≡ false

-- slot t is one of so many from this one on
abbrev pub is_among : ℕ → ℕ → ℕ → Bool
is_among slot slots t = nat_le slot t && nat_lt t (slot + slots)

-- the bytes of an entry
abbrev pub entry_bytes : ℕ → ℕ → ℕ → ℕ → List ℕ
entry_bytes hash ino len kind = little_bytes 4 hash ++ (little_bytes 4 ino ++ (little_bytes 2 len ++ kind ∷ []))

-- the item with these fields
abbrev pub new_item : ℕ → ℕ → ℕ → ℕ → List ℕ → Item
new_item slot hash ino kind name = record { place = slot; hash = hash; ino = ino; kind = kind; len = length name; name = name; is_legal = is_legal_name name }

-- the block has the item now, and each other one as before
pub record HasPut (old new : List ℕ) (item : Item) : Type 0 where
  pub bits : (t : ℕ) → t < block_slots → bit_lsb new t ≡ (bit_lsb old t || is_among item.place (slots_for item.len) t)
  pub stands : item_in new block_slots item.place ≡ item
  pub others : (slot slots : ℕ) → 1 ≤ slots → slot + slots ≤ block_slots → slots_for (name_length old block_slots slot) ≤ slots
      → (slot + slots ≤ item.place) ⊎ (item.place + slots_for item.len ≤ slot) → item_in new block_slots slot ≡ item_in old block_slots slot
