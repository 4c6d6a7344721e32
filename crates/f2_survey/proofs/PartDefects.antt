-- The defects of a part, comparison by comparison, and those of a rule, part by part.
use Rattle.std.proofs.Common.{◌≡◌, ℕ, ◌+◌, List, [], ◌∷◌, ◌++◌, Option, refl, sym, ap, ◌∙◌, subst, zero-add}
use Rattle.std.specs.Prelude.{flat_map, filter_map}
use Rattle.std.proofs.lemmas.List.{append-nil}
use Rattle.std.proofs.lemmas.List.Concat.{flat_map-append}
use Rattle.std.specs.List.{range_with_len}
use Rattle.f2_bytes.specs.Bytes.{Image, numbers_below}
use Rattle.f2_bytes.specs.Check.{Comparison, Part, single, defect_of, defects_at, part_defects}
use Rattle.f2_defects.specs.Collected.{Collection, Collects, Compares, Appends, defects_of}
use Rattle.f2_survey.specs.Parts.{part_in, defects_below, first_parts}
use Rattle.f2_defects.proofs.Runs.{range-append}

-- ---- numbers below a limit, one more

pub numbers-more : (n : ℕ) → numbers_below (n + 1) ≡ numbers_below n ++ n ∷ []
unfolding numbers_below
numbers-more n = range-append 0 n 1 ∙ ap (λ k. range_with_len 0 n ++ k ∷ []) (zero-add n)

pub flat_map-more : {A : Type 0} (f : ℕ → List A) (n : ℕ) → flat_map f (numbers_below (n + 1)) ≡ flat_map f (numbers_below n) ++ f n
flat_map-more f n =
    ap (flat_map f) (numbers-more n) ∙ flat_map-append f (numbers_below n) (n ∷ []) ∙ ap (λ l. flat_map f (numbers_below n) ++ l) (append-nil (f n))

-- ---- a part

pub defects_below-none : (p : Part) → defects_below p 0 ≡ []
unfolding numbers_below
defects_below-none p = refl

pub defects_below-more : (p : Part) (n : ℕ) → defects_below p (n + 1) ≡ defects_below p n ++ defects_at p n
defects_below-more p n = flat_map-more (defects_at p) n

pub defects_below-all : (p : Part) → part_defects p ≡ defects_below p p.first_limit
unfolding part_defects
defects_below-all p = refl

-- where there is one comparison for a first number
pub defects_at-one : (p : Part) (a : ℕ) → p.second_limit a ≡ 1 → defects_at p a ≡ defects_of p.number a 0 (p.comparison a 0)
unfolding defects_at numbers_below
defects_at-one p a one = ap (λ n. filter_map (λ b. defect_of p.number a b (p.comparison a b)) (numbers_below n)) one

pub defects_of_single : (number : ℕ) (comparison : Option Comparison) → part_defects (single number comparison) ≡ defects_of number 0 0 comparison
unfolding part_defects defects_at numbers_below
defects_of_single number comparison = append-nil (defects_of number 0 0 comparison)

-- one comparison more is collected
pub compared_one : (p : Part) (old new : Collection) (n : ℕ) → p.second_limit n ≡ 1 → old.part ≡ p.number → Collects old (defects_below p n)
    → Compares old new n 0 (p.comparison n 0) → Collects new (defects_below p (n + 1))
compared_one p old new n one part before compares =
    let added : defects_of old.part n 0 (p.comparison n 0) ≡ defects_at p n = ap (λ k. defects_of k n 0 (p.comparison n 0)) part ∙ sym (defects_at-one p n one) in
    subst (Collects new) (ap (λ l. defects_below p n ++ l) added ∙ sym (defects_below-more p n)) (compares (defects_below p n) before)

-- ---- a rule

pub first_parts-one : (image : Image) (rule : ℕ) → first_parts image rule 1 ≡ part_defects (part_in image rule 1)
unfolding numbers_below
first_parts-one image rule = append-nil (part_defects (part_in image rule 1))

pub first_parts-more : (image : Image) (rule n : ℕ) → first_parts image rule (n + 1) ≡ first_parts image rule n ++ part_defects (part_in image rule (n + 1))
first_parts-more image rule n = flat_map-more (λ k. part_defects (part_in image rule (k + 1))) n

-- the defects of one part more are collected
pub part_more : (image : Image) (rule n : ℕ) (a b c : Collection) → Collects a (first_parts image rule n) → Collects b (part_defects (part_in image rule (n + 1)))
    → Appends a b c → Collects c (first_parts image rule (n + 1))
part_more image rule n a b c first second appends =
    subst (Collects c) (sym (first_parts-more image rule n)) (appends (first_parts image rule n) (part_defects (part_in image rule (n + 1))) first second)
