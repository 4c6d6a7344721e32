-- Rules that an image meets: their parts have no defects.
use Rattle.std.proofs.Common.{◌≡◌, ℕ, zero, suc, ◌+◌, ◌-◌, ◌<◌, ◌≤◌, List, [], ◌∷◌, ◌++◌, refl, sym, ap, subst, ◌∙◌, ⊎_elim, arith}
use Rattle.std.specs.Prelude.{flat_map}
use Rattle.std.proofs.lemmas.Bool.{cases_lt}
use Rattle.f2_bytes.specs.Bytes.{Image, numbers_below}
use Rattle.f2_bytes.specs.Check.{defects, part_defects}
use Rattle.f2_survey.specs.Parts.{part_in, MeetsBefore, HasPlaces, first_parts}
use Rattle.f2_items.proofs.GrownLists.{flat_map_push}
use Rattle.f2_survey.proofs.NumberLists.{numbers-suc}
use Rattle.f2_survey.proofs.RuleParts.{node_parts_all, address_parts_all}

first-none : {A : Type 0} (xs ys : List A) → xs ++ ys ≡ [] → xs ≡ []
first-none [] ys none = refl
first-none (x ∷ xs) ys none = cc

second-none : {A : Type 0} (xs ys : List A) → xs ++ ys ≡ [] → ys ≡ []
second-none [] ys none = none
second-none (x ∷ xs) ys none = cc

-- where all joined lists have nothing, each has nothing
none-below : {A : Type 0} (f : ℕ → List A) (n : ℕ) → flat_map f (numbers_below n) ≡ [] → (k : ℕ) → k < n → f k ≡ []
none-below f zero none k low = absurd (omega (arith, low))
none-below f (suc n) none k low =
    let both = sym (ap (flat_map f) (numbers-suc n) ∙ flat_map_push f (numbers_below n) n) ∙ none in
    ⊎_elim (λ below. none-below f n (first-none (flat_map f (numbers_below n)) (f n) both) k below)
    (λ past. ap f (let e : k ≡ n = omega (arith, low, past) in e) ∙ second-none (flat_map f (numbers_below n)) (f n) both)
    (cases_lt k n)

-- the parts of a rule, from the first one on
pub parts-met : (image : Image) (rule n : ℕ) → first_parts image rule n ≡ [] → (k : ℕ) → 1 ≤ k → k ≤ n → part_defects (part_in image rule k) ≡ []
parts-met image rule n none k low high =
    subst (λ (m : ℕ). part_defects (part_in image rule m) ≡ []) (let e : k - 1 + 1 ≡ k = omega (arith, low) in e)
    (none-below (λ j. part_defects (part_in image rule (j + 1))) n none (k - 1) (omega (arith, low, high)))

-- where the image meets rule 3, each node hangs in its place
pub has_places : (image : Image) → defects image 3 ≡ [] → HasPlaces image
has_places image none = λ n low high. parts-met image 3 7 (node_parts_all image ∙ none) n low (omega (arith, high))

pub places_before : (image : Image) (rule : ℕ) → 4 ≤ rule → MeetsBefore image rule → HasPlaces image
places_before image rule late meets = has_places image (meets 3 (omega arith) (omega (arith, late)))

-- the two parts of rule 4
pub outside_met : (image : Image) → defects image 4 ≡ [] → part_defects (part_in image 4 1) ≡ []
outside_met image none = parts-met image 4 2 (address_parts_all image ∙ none) 1 (omega arith) (omega arith)

pub repeats_met : (image : Image) → defects image 4 ≡ [] → part_defects (part_in image 4 2) ≡ []
repeats_met image none = parts-met image 4 2 (address_parts_all image ∙ none) 2 (omega arith) (omega arith)
