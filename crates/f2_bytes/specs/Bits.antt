-- Maps of bits in lists of bytes, with the bits of each byte numbered from either end.
use Rattle.std.specs.Prelude.{◌≡◌, ◌≢◌, ℕ, ◌-◌, ◌/◌, ◌%◌, Bool, List, length, slice_index}
use Rattle.f2_bytes.specs.Bytes.{has_bit}

-- bit k of a map, each byte's least significant bit first: the order of a directory's bitmap
abbrev pub bit_lsb : List ℕ → ℕ → Bool
bit_lsb map k = has_bit (slice_index map (k / 8)) (k % 8)

-- bit k of a map, each byte's most significant bit first: the order of valid maps and version bitmaps
abbrev pub bit_msb : List ℕ → ℕ → Bool
bit_msb map k = has_bit (slice_index map (k / 8)) (7 - k % 8)

-- the new map has bit k as given, by this reading, and each other bit and byte of the old one
pub record ChangesBit (reading : List ℕ → ℕ → Bool) (old new : List ℕ) (k : ℕ) (on : Bool) : Type 0 where
  pub length : length new ≡ length old
  pub bit : reading new k ≡ on
  pub bits : (j : ℕ) → j ≢ k → reading new j ≡ reading old j
  pub bytes : (j : ℕ) → j ≢ k / 8 → slice_index new j ≡ slice_index old j
