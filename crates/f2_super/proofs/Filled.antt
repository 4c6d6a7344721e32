-- Numbers that are put into the rows of a record.
use Rattle.std.proofs.Common.{◌≡◌, ◌⊎◌, inl, inr, ⊎_elim, ℕ, zero, suc, ◌+◌, ◌^◌, ◌<◌, ◌≤◌, Bool, true, false, List, [], ◌∷◌, ◌++◌, length, take, drop, get_or, refl, sym, ap, subst, ◌∙◌, arith}
use Rattle.std.specs.Prelude.{◌||◌, nat_le}
use Rattle.std.specs.List.{list_all}
use Rattle.std.proofs.lemmas.Bool.{and_parts, leb-true, cases_lt}
use Rattle.byteorder.specs.Endian.{little_bytes}
use Rattle.byteorder.specs.Numbers.{length-bytes_low_first}
use Rattle.f2_bytes.specs.Bytes.{number_at, with_number, with_bytes}
use Rattle.f2_bytes.specs.Fields.{field, row_at, field_at, with_field, lie_apart, are_apart}
use Rattle.f2_bytes.specs.declared.fields.Field.{Field}
use Rattle.f2_bytes.proofs.Entries.{number_at-apart}
use Rattle.f2_bytes.proofs.Numbers.{length-with_number}
use Rattle.f2_bytes.proofs.Tables.{row_passes}
use Rattle.f2_super.specs.Filled.{FitRows, IsFilled, Keeps}

-- a number that is put in is put as its bytes
pub with_number-bytes : (b : List ℕ) (at n v : ℕ) → with_number b at n v ≡ with_bytes b at (little_bytes n v)
unfolding with_number
with_number-bytes b at n v =
    let size : length (little_bytes n v) ≡ n = length-bytes_low_first 0 n v in
    λ i. take at b ++ little_bytes n v ++ drop (at + sym size i) b

-- a number apart from another one that is put in
pub with_number-apart : (b : List ℕ) (at width v i n : ℕ) → at + width ≤ length b → (i + n ≤ at) ⊎ (at + width ≤ i) → number_at (with_number b at width v) i n ≡ number_at b i n
with_number-apart b at width v i n inside apart =
    let size : length (little_bytes width v) ≡ width = length-bytes_low_first 0 width v in
    ap (λ l. number_at l i n) (with_number-bytes b at width v)
    ∙ number_at-apart b (little_bytes width v) at i n (omega (arith, size, inside)) (⊎_elim (λ before. inl before) (λ behind. inr (omega (arith, size, behind))) apart)

abbrev pub Apart : Field → Field → Type 0
Apart a b = (a.offset + a.width ≤ b.offset) ⊎ (b.offset + b.width ≤ a.offset)

or_apart : (m n i j : ℕ) → (nat_le m n || nat_le i j) ≡ true → (m ≤ n) ⊎ (i ≤ j)
or_apart m n i j either = go (nat_le m n) refl
  where
    go : (t : Bool) → nat_le m n ≡ t → (m ≤ n) ⊎ (i ≤ j)
    go true is = inl (leb-true m n is)
    go false is = inr (leb-true i j (ap (λ t. t || nat_le i j) (sym is) ∙ either))

-- each row lies in the record
pub row-inside : (size : ℕ) (rows : List Field) (k : ℕ) → lie_apart size rows ≡ true → k < length rows → (row_at rows k).offset + (row_at rows k).width ≤ size
row-inside size [] k apart below = absurd (omega arith)
row-inside size (row ∷ rows) zero apart below = leb-true _ _ (and_parts _ _ (and_parts _ _ apart).0).0
row-inside size (row ∷ rows) (suc k) apart below = row-inside size rows k (and_parts _ _ apart).1 (omega (arith, below))

-- two rows have no byte in common
pub rows-apart : (size : ℕ) (rows : List Field) (j k : ℕ) → lie_apart size rows ≡ true → j < k → k < length rows → Apart (row_at rows j) (row_at rows k)
rows-apart size [] j k apart less below = absurd (omega arith)
rows-apart size (row ∷ rows) j zero apart less below = absurd (omega arith)
rows-apart size (row ∷ rows) zero (suc k) apart less below =
    or_apart _ _ _ _ (row_passes (are_apart row) rows k (field 0 0) (omega (arith, below)) (and_parts _ _ (and_parts _ _ apart).0).1)
rows-apart size (row ∷ rows) (suc j) (suc k) apart less below = rows-apart size rows j k (and_parts _ _ apart).1 (omega (arith, less)) (omega (arith, below))

-- the number for a row fits it
pub fits-at : (rows : List Field) (values : List ℕ) (k : ℕ) → FitRows rows values → k < length rows → k < length values → get_or values k 0 < 256 ^ (row_at rows k).width
fits-at [] values k fits below short = absurd (omega arith)
fits-at (row ∷ rows) [] k fits below short = absurd (omega arith)
fits-at (row ∷ rows) (v ∷ values) zero fits below short = fits.0
fits-at (row ∷ rows) (v ∷ values) (suc k) fits below short = fits-at rows values k fits.1 (omega (arith, below)) (omega (arith, short))

-- before the first row
pub filled-none : (rows : List Field) (values b : List ℕ) → IsFilled rows values 0 b b
filled-none rows values b = record { size = refl; filled = λ k below. absurd (omega (arith, below)); others = λ i count apart. refl }

-- one row more
pub filled-more : (rows : List Field) (values : List ℕ) (n : ℕ) (old mid new : List ℕ) → lie_apart (length old) rows ≡ true → n < length rows → IsFilled rows values n old mid
    → new ≡ with_field rows mid n (get_or values n 0) → field_at rows new n ≡ get_or values n 0 → IsFilled rows values (n + 1) old new
filled-more rows values n old mid new apart below so_far is read = record {
  size = ap length is ∙ length-with_number mid at width (get_or values n 0) inside ∙ so_far.size;
  filled = each;
  others = λ i count out. ap (λ l. number_at l i count) is ∙ with_number-apart mid at width (get_or values n 0) i count inside (out n (omega arith)) ∙ so_far.others i count (λ k less. out k (omega (arith, less)));
}
  where
    at : ℕ
    at = (row_at rows n).offset

    width : ℕ
    width = (row_at rows n).width

    inside : at + width ≤ length mid
    inside = omega (arith, row-inside (length old) rows n apart below, so_far.size)

    each : (k : ℕ) → k < n + 1 → field_at rows new k ≡ get_or values k 0
    each k less = elim (cases_lt k n) [
      | inl before ↦
          ap (λ l. field_at rows l k) is
          ∙ with_number-apart mid at width (get_or values n 0) (row_at rows k).offset (row_at rows k).width inside (rows-apart (length old) rows k n apart before below)
          ∙ so_far.filled k before
      | inr past ↦ let here : k ≡ n = omega (arith, less, past) in subst (λ j. field_at rows new j ≡ get_or values j 0) (sym here) read
    ]

-- where the rows have no byte among some
abbrev pub are_out : ℕ → ℕ → List Field → Bool
are_out low high rows = list_all (λ row. nat_le high row.offset || nat_le (row.offset + row.width) low) rows

pub row-out : (low high : ℕ) (rows : List Field) (k : ℕ) → are_out low high rows ≡ true → k < length rows → (high ≤ (row_at rows k).offset) ⊎ ((row_at rows k).offset + (row_at rows k).width ≤ low)
row-out low high rows k out below = or_apart _ _ _ _ (row_passes (λ (row : Field). nat_le high row.offset || nat_le (row.offset + row.width) low) rows k (field 0 0) below out)

-- the rows stay where other bytes change
pub rows-kept : (rows : List Field) (at count : ℕ) (c d : List ℕ) (k : ℕ) → are_out at (at + count) rows ≡ true → k < length rows → Keeps at count c d → field_at rows d k ≡ field_at rows c k
rows-kept rows at count c d k out below keeps =
    keeps.others (row_at rows k).offset (row_at rows k).width (⊎_elim (λ behind. inr behind) (λ before. inl before) (row-out at (at + count) rows k out below))

-- and other numbers stay where the rows change
pub others-kept : (rows : List Field) (values old new : List ℕ) (n low high i count : ℕ) → are_out low high rows ≡ true → n ≤ length rows → low ≤ i → i + count ≤ high → IsFilled rows values n old new → number_at new i count ≡ number_at old i count
others-kept rows values old new n low high i count out few first last filled =
    filled.others i count (λ k below. ⊎_elim (λ behind. inl (omega (arith, behind, last))) (λ before. inr (omega (arith, before, first))) (row-out low high rows k out (omega (arith, below, few))))
