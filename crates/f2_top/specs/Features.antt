-- The list of features with which an image is made.
use Rattle.std.specs.Prelude.{ℕ, zero, suc, ◌==◌, Bool, nat_lt, if◌then◌else◌, List, length, codes, bytes_eq, bit_or, Option, Some, None, option_map}
use Rattle.std.specs.List.{position_or_len, before_first, after_first}
use Rattle.std.specs.Option.{option_and_then}

-- a comma
abbrev pub is_comma : ℕ → Bool
is_comma b = b == 44

-- the bit of a feature
abbrev pub feature_of : List ℕ → Option ℕ
feature_of name =
    if bytes_eq name (codes "lost_found") then Some 0x200
    else (if bytes_eq name (codes "sb_checksum") then Some 0x800 else None)

-- these bits, and those of the names of a text that has at most n commas
unfoldable pub features_with : ℕ → ℕ → List ℕ → Option ℕ
features_with zero bits text = option_map (λ bit. bit_or bits bit) (feature_of text)
features_with (suc n) bits text =
    if nat_lt (position_or_len is_comma text) (length text)
    then option_and_then (λ bit. features_with n (bit_or bits bit) (after_first is_comma text))
    (feature_of (before_first is_comma text))
    else option_map (λ bit. bit_or bits bit) (feature_of text)

-- the bits of the names that a text lists, with a comma between each two
abbrev pub features_of : List ℕ → Option ℕ
features_of text = features_with (length text) 0 text
