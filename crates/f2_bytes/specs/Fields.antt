-- Tables of the numbers in a record.
use Rattle.std.specs.Prelude.{ℕ, ◌+◌, nat_le, Bool, true, ◌&&◌, ◌||◌, List, [], ◌∷◌, get_or}
use Rattle.std.specs.List.{list_all}
use Rattle.f2_bytes.specs.declared.fields.Field.{Field}
use Rattle.f2_bytes.specs.Bytes.{number_at, with_number}

abbrev pub field : ℕ → ℕ → Field
field offset width = record { offset = offset; width = width }

-- row k of a table, which past its end has no bytes
abbrev pub row_at : List Field → ℕ → Field
row_at rows k = get_or rows k (field 0 0)

-- the number in row k of the record b
abbrev pub field_at : List Field → List ℕ → ℕ → ℕ
field_at rows b k = let row = row_at rows k in number_at b row.offset row.width

-- the record b with the number v in row k
abbrev pub with_field : List Field → List ℕ → ℕ → ℕ → List ℕ
with_field rows b k v = let row = row_at rows k in with_number b row.offset row.width v

-- a row lies in a record of this many bytes
abbrev pub lies_in : ℕ → Field → Bool
lies_in size row = nat_le (row.offset + row.width) size

-- two rows have no byte in common
abbrev pub are_apart : Field → Field → Bool
are_apart a b = nat_le (a.offset + a.width) b.offset || nat_le (b.offset + b.width) a.offset

-- each row lies in a record of this many bytes, and no two of them overlap
abbrev pub lie_apart : ℕ → List Field → Bool
lie_apart size [] = true
lie_apart size (row ∷ rows) = lies_in size row && list_all (are_apart row) rows && lie_apart size rows
