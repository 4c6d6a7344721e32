-- The checksum of superblock copies and checkpoint blocks.
use Rattle.std.specs.Prelude.{ℕ, zero, suc, ◌/◌, ◌%◌, Bool, ◌==◌, ◌&&◌, List, [], ◌∷◌, take, if◌then◌else◌, bit_xor}
use Rattle.f2_bytes.specs.Bytes.{Block, number_at, with_number}

-- c halved n times, each time xor the polynomial where its lowest bit was 1
unfoldable pub crc_after : ℕ → ℕ → ℕ
crc_after zero c = c
crc_after (suc n) c = crc_after n (if c % 2 == 1 then bit_xor (c / 2) 0xEDB88320 else c / 2)

-- the checksum of the bytes, begun with c
abbrev pub crc : ℕ → List ℕ → ℕ
crc c [] = c
crc c (x ∷ rest) = crc (crc_after 8 (bit_xor c x)) rest

-- the magic number of the file system, with which its checksums begin
abbrev pub magic_number : ℕ
magic_number = 0xF2F52010

-- a checkpoint block ends in the checksum of the bytes before, and says where it stands
unfoldable pub is_sealed : Block → Bool
is_sealed b = (number_at b 164 4 == 4092) && (number_at b 4092 4 == crc magic_number (take 4092 b))

-- the block sealed: only these two numbers change
unfoldable pub with_seal : Block → Block
with_seal b = let placed = with_number b 164 4 4092 in with_number placed 4092 4 (crc magic_number (take 4092 placed))
