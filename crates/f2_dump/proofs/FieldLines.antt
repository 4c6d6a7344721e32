-- The lines of a record's fields, one by one.
use Rattle.std.proofs.Common.{◌≡◌, ℕ, ◌+◌, ◌≤◌, true, List, [], ◌∷◌, ◌++◌, length, get_or, sym, ap, ◌∙◌, subst, arith, inl, inr}
use Rattle.std.specs.Prelude.{flat_map, nat_le, ◌&&◌}
use Rattle.std.specs.List.{list_all}
use Rattle.std.proofs.lemmas.Bool.{cases_lt, and_parts, leb-true}
use Rattle.std.proofs.lemmas.Grind.{flat_map-append}
use Rattle.std.proofs.lemmas.List.Sums.{AllPass-from_list_all}
use Rattle.std.proofs.lemmas.List.{get_or_past, append-nil}
use Rattle.f2_bytes.specs.declared.fields.Field.{Field}
use Rattle.f2_bytes.specs.Bytes.{numbers_below}
use Rattle.f2_bytes.specs.Fields.{field, row_at, lies_in}
use Rattle.f2_bytes.proofs.SetBits.{range-append}
use Rattle.f2_bytes.proofs.Tables.{row_passes}

numbers-more : (k : ℕ) → numbers_below (k + 1) ≡ numbers_below k ++ k ∷ []
unfolding numbers_below
numbers-more k = range-append 0 k 1 ∙ ap (λ (n : ℕ). numbers_below k ++ n ∷ []) (omega arith)

pub lines-none : (f : ℕ → List ℕ) (text : List ℕ) → text ≡ text ++ flat_map f (numbers_below 0)
unfolding numbers_below
lines-none f text = sym (append-nil text)

-- one line more
pub lines-more : (f : ℕ → List ℕ) (k : ℕ) → flat_map f (numbers_below (k + 1)) ≡ flat_map f (numbers_below k) ++ f k
lines-more f k = ap (flat_map f) (numbers-more k) ∙ flat_map-append f (numbers_below k) (k ∷ []) ∙ ap (λ (l : List ℕ). flat_map f (numbers_below k) ++ l) (append-nil (f k))

-- each row of a table whose rows lie in a block does so, and past its end there are no bytes
pub record IsRow (row : Field) : Type 0 where
  pub inside : row.offset + row.width ≤ 4096
  pub narrow : row.width ≤ 8

pub row-fits : (rows : List Field) (k : ℕ) → list_all (λ row. lies_in 4096 row && nat_le row.width 8) rows ≡ true → IsRow (row_at rows k)
row-fits rows k all = elim (cases_lt k (length rows)) [
  | inl below ↦
      let row = row_at rows k in
      let both = and_parts (lies_in 4096 row) (nat_le row.width 8) (row_passes (λ (r : Field). lies_in 4096 r && nat_le r.width 8) rows k (field 0 0) below all) in
      record { inside = leb-true (row.offset + row.width) 4096 both.0; narrow = leb-true row.width 8 both.1 }
  | inr past ↦ subst IsRow (sym (get_or_past rows k (field 0 0) past)) (record { inside = omega arith; narrow = omega arith })
]

-- no name is longer than the longest
pub name-fits : {X : Type 0} (size : X → ℕ) (most : ℕ) (names : List X) (k : ℕ) (d : X) → size d ≤ most → list_all (λ name. nat_le (size name) most) names ≡ true → size (get_or names k d) ≤ most
name-fits size most names k d none all = elim (cases_lt k (length names)) [
  | inl below ↦ leb-true (size (get_or names k d)) most (AllPass-from_list_all (λ name. nat_le (size name) most) names all k d below)
  | inr past ↦ subst (λ name. size name ≤ most) (sym (get_or_past names k d past)) none
]
