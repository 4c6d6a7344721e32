-- The texts of numbers, of inode numbers, of ranges and of uuids.
use Rattle.std.specs.Prelude.{ℕ, zero, suc, ◌+◌, ◌*◌, ◌^◌, Bool, ◌&&◌, ◌==◌, nat_eq, nat_lt, if◌then◌else◌, List, [], ◌∷◌, length, slice_index, drop, codes, bytes_eq, Option, Some, None, option_map}
use Rattle.std.specs.Char.{digit_value}
use Rattle.std.specs.List.{list_all, starts_with, before_first, after_first}
use Rattle.std.specs.Option.{option_and_then}
use Rattle.std.specs.Str.Parse.{digits_value}

-- one digit or more of this base, in either case, and nothing else
abbrev pub is_numeral : ℕ → List ℕ → Bool
is_numeral base text = nat_lt 0 (length text) && list_all (λ b. nat_lt (digit_value b) base) text

-- the number that the digits write in this base, where it has at most 64 bits
unfoldable pub numeral_of : ℕ → List ℕ → Option ℕ
numeral_of base text =
    if is_numeral base text && nat_lt (digits_value base text) (2 ^ 64) then Some (digits_value base text) else None

-- the number that a text writes: hexadecimal digits after `0x`, or decimal ones
unfoldable pub number_of : List ℕ → Option ℕ
number_of text = if starts_with nat_eq text (codes "0x") then numeral_of 16 (drop 2 text) else numeral_of 10 text

-- the inode number that a text writes: a number of at most 32 bits
unfoldable pub ino_of : List ℕ → Option ℕ
ino_of text = option_and_then (λ n. if nat_lt n (2 ^ 32) then Some n else None) (number_of text)

-- the last number of a range: `-1` is none, so that the range has no end
unfoldable pub end_of : List ℕ → Option (Option ℕ)
end_of text = if bytes_eq text (codes "-1") then Some None else option_map (λ n. Some n) (number_of text)

-- a tilde
abbrev pub is_tilde : ℕ → Bool
is_tilde b = b == 126

-- the range that a text writes: its first number, a tilde, and its last one
unfoldable pub range_of : List ℕ → Option (ℕ × Option ℕ)
range_of text =
    option_and_then (λ first. option_map (λ last. (first, last)) (end_of (after_first is_tilde text)))
    (number_of (before_first is_tilde text))

-- the number that two hexadecimal digits write, of which the first stands at this place
unfoldable pub pair_of : List ℕ → ℕ → Option ℕ
pair_of text at =
    let high = digit_value (slice_index text at) in
    let low = digit_value (slice_index text (at + 1)) in
    if nat_lt high 16 && nat_lt low 16 then Some (high * 16 + low) else None

-- the place of the digits of byte i of a uuid: a hyphen stands before bytes 4, 6, 8 and 10
abbrev pub uuid_place : ℕ → ℕ
uuid_place i =
    2 * i + (if nat_lt i 4 then 0 else (if nat_lt i 6 then 1 else (if nat_lt i 8 then 2 else (if nat_lt i 10 then 3
    else 4))))

-- the n bytes of a uuid from byte i on
abbrev pub uuid_bytes : List ℕ → ℕ → ℕ → Option (List ℕ)
uuid_bytes text i zero = Some []
uuid_bytes text i (suc n) =
    option_and_then (λ b. option_map (λ bs. b ∷ bs) (uuid_bytes text (i + 1) n)) (pair_of text (uuid_place i))

-- a text of 36 characters, with hyphens behind 8, 4, 4 and 4 digits
abbrev pub has_hyphens : List ℕ → Bool
has_hyphens text = length text == 36
    && (slice_index text 8 == 45 && (slice_index text 13 == 45
    && (slice_index text 18 == 45 && slice_index text 23 == 45)))

-- the bytes of the uuid that a text writes: 32 hexadecimal digits, in groups of 8, 4, 4, 4 and 12 with hyphens between
-- them
unfoldable pub uuid_of : List ℕ → Option (List ℕ)
uuid_of text = if has_hyphens text then uuid_bytes text 0 16 else None
