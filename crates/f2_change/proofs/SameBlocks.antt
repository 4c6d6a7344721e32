-- Blocks that writes leave alone.
use Rattle.std.proofs.Common.{◌≡◌, ◌⊎◌, inl, inr, ℕ, zero, suc, ◌+◌, ◌-◌, ◌<◌, ◌≤◌, Bool, true, false, List, [], ◌∷◌, ◌++◌, map, length, get_or, set, refl, sym, ◌∙◌, ap, subst, arith, length-set, get_or-set_same, get_or-set_other}
use Rattle.std.specs.Prelude.{◌==◌, take}
use Rattle.std.specs.List.{list_any, range_with_len}
use Rattle.std.proofs.lemmas.Bool.{eq-eqb, ne_eqb, or_parts, or_from, or_left, cases_eq, false≢true}
use Rattle.std.proofs.lemmas.List.{take_more, map-append}
use Rattle.std.proofs.lemmas.List.FromFn.{length-map-range_with_len, get_or-map-range_with_len}
use Rattle.std.proofs.lemmas.List.Folds.{list_any-append, list_any_at}
use Rattle.std.proofs.lemmas.List.Sums.{fold-append}
use Rattle.f2_bytes.specs.Bytes.{Block, Image, block_at}
use Rattle.f2_disk.specs.Disk.{Lands}
use Rattle.f2_pack.proofs.Kept.{range_more}
use Rattle.f2_pack.specs.Written.{written}
use Rattle.f2_change.specs.CommitSteps.{SameBut}
use Rattle.f2_change.specs.Writes.{Prepared, with_writes, head_address, pack_body}

-- whether a block is written to
abbrev pub is_written : List (ℕ × Block) → ℕ → Bool
is_written blocks address = list_any (λ w. w.0 == address) blocks

-- what the first writes to, all of the others do
abbrev pub Within : List (ℕ × Block) → List (ℕ × Block) → Type 0
Within blocks all = (address : ℕ) → is_written all address ≡ false → is_written blocks address ≡ false

pub within_front : (xs ys : List (ℕ × Block)) → Within xs (xs ++ ys)
within_front xs ys address free = (or_parts (is_written xs address) (is_written ys address) (sym (list_any-append (λ w. w.0 == address) xs ys) ∙ free)).0

pub within_back : (xs ys : List (ℕ × Block)) → Within ys (xs ++ ys)
within_back xs ys address free = (or_parts (is_written xs address) (is_written ys address) (sym (list_any-append (λ w. w.0 == address) xs ys) ∙ free)).1

pub same_start : (blocks : List (ℕ × Block)) (image : Image) → SameBut blocks image image
same_start blocks image = record { size = refl; others = λ address free. refl }

pub same_then : {blocks : List (ℕ × Block)} {a b c : Image} → SameBut blocks a b → SameBut blocks b c → SameBut blocks a c
same_then first second = record {
  size = second.size ∙ first.size;
  others = λ address free. second.others address free ∙ first.others address free;
}

pub same_within : {blocks all : List (ℕ × Block)} {a b : Image} → Within blocks all → SameBut blocks a b → SameBut all a b
same_within within same = record { size = same.size; others = λ address free. same.others address (within address free) }

pub set_same : (blocks : List (ℕ × Block)) (image : Image) (at : ℕ) (b : Block) → is_written blocks at ≡ true → SameBut blocks image (set image at b)
set_same blocks image at b written = record {
  size = length-set image at b;
  others = λ address free. get_or-set_other image at address b [] (λ e. false≢true (sym free ∙ ap (is_written blocks) e ∙ written));
}

pub lands_same : (blocks : List (ℕ × Block)) (image c : Image) (at : ℕ) (b : Block) → is_written blocks at ≡ true → Lands at b image c → SameBut blocks image c
lands_same blocks image c at b written (inl kept) = subst (SameBut blocks image) (sym kept) (same_start blocks image)
lands_same blocks image c at b written (inr (inl wrote)) = subst (SameBut blocks image) (sym wrote) (set_same blocks image at b written)
lands_same blocks image c at b written (inr (inr (torn, is_torn, wrote))) = subst (SameBut blocks image) (sym wrote) (set_same blocks image at torn written)

pub first_written : (at : ℕ) (b : Block) (rest : List (ℕ × Block)) → is_written ((at, b) ∷ rest) at ≡ true
first_written at b rest = or_left (at == at) (is_written rest at) (eq-eqb at at refl)

pub writes_append : (image : Image) (xs ys : List (ℕ × Block)) → with_writes image (xs ++ ys) ≡ with_writes (with_writes image xs) ys
unfolding with_writes
writes_append image xs ys = fold-append (λ (i : Image) (w : ℕ × Block). set i w.0 w.1) image xs ys

pub writes_one : (image : Image) (at : ℕ) (b : Block) → with_writes image ((at, b) ∷ []) ≡ set image at b
unfolding with_writes
writes_one image at b = refl

pub writes_none : (image : Image) → with_writes image [] ≡ image
unfolding with_writes
writes_none image = refl

pub writes_same : (image : Image) (blocks : List (ℕ × Block)) → SameBut blocks image (with_writes image blocks)
unfolding with_writes
writes_same image [] = same_start [] image
writes_same image (w ∷ rest) =
    same_then (set_same (w ∷ rest) image w.0 w.1 (first_written w.0 w.1 rest))
    (same_within (within_back (w ∷ []) rest) (writes_same (set image w.0 w.1) rest))

-- one block more of a list, as in a loop
pub writes_more : (image : Image) (blocks : List (ℕ × Block)) (i : ℕ) (w : ℕ × Block) → i < length blocks → w ≡ get_or blocks i w → with_writes image (take (i + 1) blocks) ≡ set (with_writes image (take i blocks)) w.0 w.1
writes_more image blocks i w below is =
    ap (with_writes image) (take_more blocks i w below ∙ ap (λ (x : ℕ × Block). take i blocks ++ x ∷ []) (sym is))
    ∙ writes_append image (take i blocks) (w ∷ [])
    ∙ writes_one (with_writes image (take i blocks)) w.0 w.1

pub written_at : (blocks : List (ℕ × Block)) (i : ℕ) (w : ℕ × Block) (at : ℕ) → i < length blocks → w ≡ get_or blocks i w → at ≡ w.0 → is_written blocks at ≡ true
written_at blocks i w at below is same = list_any_at (λ x. x.0 == at) blocks i w below (eq-eqb (get_or blocks i w).0 at (ap (λ (x : ℕ × Block). x.0) (sym is) ∙ sym same))

-- blocks that follow each other
abbrev pub placed : ℕ → (ℕ → Block) → ℕ → ℕ × Block
placed start pack j = (start + j, pack j)

abbrev pub row : ℕ → (ℕ → Block) → ℕ → ℕ → List (ℕ × Block)
row start pack first count = map (placed start pack) (range_with_len first count)

pub row_written : (start : ℕ) (pack : ℕ → Block) (first count j : ℕ) → first ≤ j → j < first + count → is_written (row start pack first count) (start + j) ≡ true
row_written start pack first count j low high =
    list_any_at (λ x. x.0 == start + j) (row start pack first count) (j - first) (0, [])
    (omega (arith, low, high, length-map-range_with_len (placed start pack) first count))
    (eq-eqb _ (start + j) (ap (λ (x : ℕ × Block). x.0) (get_or-map-range_with_len (placed start pack) first count (j - first) j (0, []) (omega (arith, low, high)) (omega (arith, low)))))

pub row_more : (image : Image) (start : ℕ) (pack : ℕ → Block) (first count j : ℕ) → first + count ≡ j → with_writes image (row start pack first (count + 1)) ≡ set (with_writes image (row start pack first count)) (start + j) (pack j)
row_more image start pack first count j is =
    ap (with_writes image) (ap (map (placed start pack)) (range_more first count j is) ∙ map-append (placed start pack) (range_with_len first count) (j ∷ []))
    ∙ writes_append image (row start pack first count) ((start + j, pack j) ∷ [])
    ∙ writes_one (with_writes image (row start pack first count)) (start + j) (pack j)

pub body_row : (r : Prepared) → pack_body r ≡ row (head_address r) (written r.pack) 1 7
unfolding pack_body
body_row r = refl

-- one block more of the pack's body
pub body_written : (r : Prepared) (k at : ℕ) → 1 ≤ k → k < 8 → at ≡ head_address r + k → is_written (pack_body r) at ≡ true
body_written r k at low high is =
    ap (λ bs. is_written bs at) (body_row r) ∙ ap (is_written (row (head_address r) (written r.pack) 1 7)) is
    ∙ row_written (head_address r) (written r.pack) 1 7 k low (omega (arith, high))

pub body_more : (r : Prepared) (image : Image) (k at : ℕ) (b : Block) → 1 ≤ k → at ≡ head_address r + k → b ≡ written r.pack k
    → set (with_writes image (row (head_address r) (written r.pack) 1 (k - 1))) at b ≡ with_writes image (row (head_address r) (written r.pack) 1 (k + 1 - 1))
body_more r image k at b low is same =
    (λ i. set (with_writes image (row (head_address r) (written r.pack) 1 (k - 1))) (is i) (same i))
    ∙ sym (row_more image (head_address r) (written r.pack) 1 (k - 1) k (omega (arith, low)))
    ∙ ap (λ n. with_writes image (row (head_address r) (written r.pack) 1 n)) (omega (arith, low))

-- no block outside the row is written to by it
pub row_apart : (start : ℕ) (pack : ℕ → Block) (first count address : ℕ) → (address < start + first) ⊎ (start + first + count ≤ address) → is_written (row start pack first count) address ≡ false
row_apart start pack first zero address apart = refl
row_apart start pack first (suc count) address (inl before) =
    or_from (start + first == address) (is_written (row start pack (first + 1) count) address) (ne_eqb (start + first) address (λ e. absurd (omega (arith, e, before)))) (row_apart start pack (first + 1) count address (inl (omega (arith, before))))
row_apart start pack first (suc count) address (inr behind) =
    or_from (start + first == address) (is_written (row start pack (first + 1) count) address) (ne_eqb (start + first) address (λ e. absurd (omega (arith, e, behind)))) (row_apart start pack (first + 1) count address (inr (omega (arith, behind))))

-- what stands in the row once it is written
pub row_reads : (image : Image) (start : ℕ) (pack : ℕ → Block) (first count j : ℕ) → first ≤ j → j < first + count → start + first + count ≤ length image → block_at (with_writes image (row start pack first count)) (start + j) ≡ pack j
row_reads image start pack first zero j low high inside = absurd (omega (arith, low, high))
row_reads image start pack first (suc count) j low high inside =
    let later : Image = set image (start + first) (pack first) in
    let begins : with_writes image (row start pack first (suc count)) ≡ with_writes later (row start pack (first + 1) count) =
    writes_append image ((start + first, pack first) ∷ []) (row start pack (first + 1) count) ∙ ap (λ (i : Image). with_writes i (row start pack (first + 1) count)) (writes_one image (start + first) (pack first)) in
    ap (λ (i : Image). block_at i (start + j)) begins ∙ elim (cases_eq first j) [
      | inl same ↦
          (writes_same later (row start pack (first + 1) count)).others (start + j) (row_apart start pack (first + 1) count (start + j) (inl (omega (arith, same))))
          ∙ ap (λ k. block_at later (start + k)) (sym same)
          ∙ get_or-set_same image (start + first) (pack first) [] (omega (arith, inside))
          ∙ ap pack same
      | inr other ↦ row_reads later start pack (first + 1) count j (omega (arith, low, other)) (omega (arith, high)) (omega (arith, inside, length-set image (start + first) (pack first)))
    ]
