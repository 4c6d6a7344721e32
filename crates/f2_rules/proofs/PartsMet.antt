-- Where a rule is met, none of its parts has a defect.
use Rattle.std.proofs.Common.{◌≡◌, ℕ, zero, suc, ◌+◌, List, [], ◌++◌, length, refl, sym, ap, ◌∙◌, subst, arith, length-append}
use Rattle.std.proofs.lemmas.List.{nil_from_length}
use Rattle.f2_bytes.specs.Bytes.{Image, numbers_below}
use Rattle.f2_bytes.specs.Check.{Defect, defects, part_defects}
use Rattle.f2_survey.proofs.PartDefects.{first_parts-more}
use Rattle.f2_survey.proofs.RuleParts.{node_parts_all}
use Rattle.f2_survey.specs.Parts.{part_in, first_parts}

pub both_none : (a b : List Defect) → a ++ b ≡ [] → (a ≡ []) × (b ≡ [])
both_none a b none =
    let both = length-append a b in
    let zero : length (a ++ b) ≡ 0 = ap (λ (l : List Defect). length l) none in
    (nil_from_length a (omega (arith, both, zero)), nil_from_length b (omega (arith, both, zero)))

module _ (image : Image) (rule : ℕ) where
  pub first_parts-none : first_parts image rule 0 ≡ []
  unfolding numbers_below
  first_parts-none = refl

  last_two : (n : ℕ) → first_parts image rule (n + 1) ≡ [] → (first_parts image rule n ≡ []) × (part_defects (part_in image rule (n + 1)) ≡ [])
  last_two n none = both_none (first_parts image rule n) (part_defects (part_in image rule (n + 1))) (sym (first_parts-more image rule n) ∙ none)

  -- fewer parts have none either
  pub fewer_none : (n more : ℕ) → first_parts image rule (n + more) ≡ [] → first_parts image rule n ≡ []
  fewer_none n zero none = subst (λ k. first_parts image rule k ≡ []) (let e : n + 0 ≡ n = omega arith in e) none
  fewer_none n (suc more) none =
      fewer_none n more (last_two (n + more) (subst (λ k. first_parts image rule k ≡ []) (let e : n + suc more ≡ n + more + 1 = omega arith in e) none)).0

-- where rule 3 is met, the survey of the nodes finds no defect
pub no_survey_defects : (image : Image) → defects image 3 ≡ [] → first_parts image 3 5 ≡ []
no_survey_defects image none = fewer_none image 3 5 2 (node_parts_all image ∙ none)
