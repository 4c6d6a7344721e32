-- Numbers that are put into the rows of a record.
use Rattle.std.specs.Prelude.{◌≡◌, ◌⊎◌, ℕ, ◌+◌, ◌^◌, ◌<◌, ◌≤◌, List, ◌∷◌, length, slice_index}
use Rattle.f2_bytes.specs.Bytes.{number_at}
use Rattle.f2_bytes.specs.Fields.{row_at, field_at}
use Rattle.f2_bytes.specs.declared.fields.Field.{Field}

-- each number fits the width of its row
abbrev pub FitRows : List Field → List ℕ → Type 0
FitRows (row ∷ rows) (v ∷ values) = (v < 256 ^ row.width) × FitRows rows values
FitRows _ _ = Unit {0}

-- the numbers that have no byte among these ones are as before, and the length is
pub record Keeps (at count : ℕ) (old new : List ℕ) : Type 0 where
  pub size : length new ≡ length old
  pub others : (i n : ℕ) → (i + n ≤ at) ⊎ (at + count ≤ i) → number_at new i n ≡ number_at old i n

-- the first n rows have their numbers, and what stands outside of these rows is as before
pub record IsFilled (rows : List Field) (values : List ℕ) (n : ℕ) (old new : List ℕ) : Type 0 where
  pub size : length new ≡ length old
  pub filled : (k : ℕ) → k < n → field_at rows new k ≡ slice_index values k
  pub others : (i count : ℕ) → ((k : ℕ) → k < n → (i + count ≤ (row_at rows k).offset) ⊎ ((row_at rows k).offset + (row_at rows k).width ≤ i)) → number_at new i count ≡ number_at old i count
