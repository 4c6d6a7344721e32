-- Numbers in lists of bytes, and images as lists of blocks.
use Rattle.std.specs.Prelude.{◌≡◌, ℕ, ◌+◌, ◌-◌, ◌*◌, ◌/◌, ◌%◌, ◌^◌, ◌<◌, Bool, ◌==◌, List, [], ◌++◌, length, get_or, take, drop, count_by, slice_index, slice_range}
use Rattle.std.specs.List.{range_with_len}
use Rattle.byteorder.specs.Endian.{little_from, little_bytes}

-- a block: a list of 4096 bytes
abbrev pub Block : Type 0
Block = List ℕ

-- what a list of numbers must be to be a block
pub record IsBlock (b : Block) : Type 0 where
  pub length : length b ≡ 4096
  pub bytes : (i : ℕ) → slice_index b i < 256

-- an image: the list of its blocks
abbrev pub Image : Type 0
Image = List Block

-- block n of an image; past the end there are no bytes, and each number reads as 0
abbrev pub block_at : Image → ℕ → Block
block_at image n = get_or image n []

-- the number in the n bytes from byte i on, the lowest byte first
unfoldable pub number_at : List ℕ → ℕ → ℕ → ℕ
number_at b i n = little_from i n b

-- the bytes with the number v in the n bytes from byte i on
unfoldable pub with_number : List ℕ → ℕ → ℕ → ℕ → List ℕ
with_number b i n v = take i b ++ little_bytes n v ++ drop (i + n) b

-- the four-byte number j of a block
abbrev pub word : List ℕ → ℕ → ℕ
word b j = number_at b (4 * j) 4

-- the bytes with these in place of as many from byte i on
abbrev pub with_bytes : List ℕ → ℕ → List ℕ → List ℕ
with_bytes b i bytes = take i b ++ bytes ++ drop (i + length bytes) b

-- the n bytes from byte i on
abbrev pub bytes_at : List ℕ → ℕ → ℕ → List ℕ
bytes_at b i n = slice_range b i (i + n)

-- whether bit k of a number is set
abbrev pub has_bit : ℕ → ℕ → Bool
has_bit n k = n / 2 ^ k % 2 == 1

-- the numbers below n, in order
unfoldable pub numbers_below : ℕ → List ℕ
numbers_below n = range_with_len 0 n

-- how many numbers below n pass the test
abbrev pub count_below : ℕ → (ℕ → Bool) → ℕ
count_below n test = count_by test (numbers_below n)

-- a quotient rounded up
abbrev pub quotient_up : ℕ → ℕ → ℕ
quotient_up n d = (n + d - 1) / d
