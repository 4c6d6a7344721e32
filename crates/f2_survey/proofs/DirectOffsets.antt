-- The offsets of nodes of addresses, in order, are those of the rows.
use Rattle.std.proofs.Common.{◌≡◌, ℕ, zero, suc, ◌+◌, ◌≤◌, [], ◌∷◌, ◌++◌, Bool, true, false, map, filter, length, refl, sym, ap, ◌∙◌, arith, append-nil}
use Rattle.std.proofs.lemmas.List.{map-append, length-map}
use Rattle.std.proofs.lemmas.List.Elements.{filter-append}
use Rattle.f2_bytes.specs.Bytes.{numbers_below}
use Rattle.f2_bytes.proofs.Below.{length-numbers_below}
use Rattle.f2_bytes.proofs.SetBits.{range-append}
use Rattle.f2_survey.specs.Slots.{direct_before, direct_offsets}
use Rattle.f2_bytes.specs.Node.{is_direct}
use Rattle.f2_survey.proofs.Spots.{row_of, offset_of_row, row_limit, limit-value, row_of-direct, row_of-other, offset_of_row-row}

pub numbers-suc : (n : ℕ) → numbers_below (suc n) ≡ numbers_below n ++ n ∷ []
unfolding numbers_below
numbers-suc n =
    ap numbers_below (let e : suc n ≡ n + 1 = omega arith in e)
    ∙ range-append 0 n 1
    ∙ ap (λ k. numbers_below n ++ k ∷ []) (let e : 0 + n ≡ n = omega arith in e)

rows-direct : (n : ℕ) → n ≤ 1039384 → map offset_of_row (numbers_below (row_of n)) ≡ filter is_direct (numbers_below n)
unfolding numbers_below row_of
rows-direct zero below = refl
rows-direct (suc n) below = go (is_direct n) refl (rows-direct n (omega (arith, below)))
  where
    go : (b : Bool) → is_direct n ≡ b → map offset_of_row (numbers_below (row_of n)) ≡ filter is_direct (numbers_below n)
        → map offset_of_row (numbers_below (row_of (suc n))) ≡ filter is_direct (numbers_below (suc n))
    go true e ih =
        let one : filter is_direct (n ∷ []) ≡ n ∷ [] = rw e refl in
        ap (λ r. map offset_of_row (numbers_below r)) (row_of-direct n e)
        ∙ ap (map offset_of_row) (numbers-suc (row_of n))
        ∙ map-append offset_of_row (numbers_below (row_of n)) (row_of n ∷ [])
        ∙ (λ i. ih i ++ offset_of_row-row n e i ∷ [])
        ∙ sym (ap (filter is_direct) (numbers-suc n) ∙ filter-append is_direct (numbers_below n) (n ∷ []) ∙ ap (λ l. filter is_direct (numbers_below n) ++ l) one)
    go false e ih =
        let none : filter is_direct (n ∷ []) ≡ [] = rw e refl in
        ap (λ r. map offset_of_row (numbers_below r)) (row_of-other n (omega (arith, below)) e)
        ∙ ih
        ∙ sym (ap (filter is_direct) (numbers-suc n) ∙ filter-append is_direct (numbers_below n) (n ∷ []) ∙ ap (λ l. filter is_direct (numbers_below n) ++ l) none ∙ append-nil (filter is_direct (numbers_below n)))

rows-limit : row_of 1039384 ≡ row_limit
unfolding row_of row_limit
rows-limit = refl

pub rows-all : map offset_of_row (numbers_below row_limit) ≡ direct_offsets
unfolding direct_offsets
rows-all =
    ap (λ r. map offset_of_row (numbers_below r)) (sym rows-limit)
    ∙ rows-direct 1039384 (let e : 1039384 ≤ 1039384 = omega arith in e)
    ∙ ap (λ l. filter is_direct (numbers_below l)) (sym limit-value)

-- how many stand before an offset
pub direct_before-row : (offset : ℕ) → offset ≤ 1039384 → direct_before offset ≡ row_of offset
direct_before-row offset below =
    sym (ap (length {A = ℕ}) (rows-direct offset below))
    ∙ length-map (numbers_below (row_of offset)) offset_of_row
    ∙ length-numbers_below (row_of offset)
