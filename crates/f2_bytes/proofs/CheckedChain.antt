-- On a checked image the chain is empty, and the nodes are those of the table.
use Rattle.std.proofs.Common.{◌≡◌, ℕ, zero, suc, ◌-◌, ◌<◌, ◌≤◌, List, [], ◌∷◌, Bool, true, false, not, ◌==◌, length, get_or, None, refl, sym, ap, ◌∙◌, arith}
use Rattle.std.specs.Prelude.{find, is_none, flat_map}
use Rattle.std.specs.List.{range_with_len}
use Rattle.std.proofs.lemmas.Bool.{and_parts, eqb-true, not-false, false≢true}
use Rattle.std.proofs.lemmas.List.FromFn.{get_or-range_with_len}
use Rattle.f2_bytes.specs.Bytes.{Image}
use Rattle.f2_bytes.specs.RollForward.{chain_length}
use Rattle.f2_bytes.specs.Check.{Part, part_defects, defects, is_rule_met, failing_rule, is_readable, is_checked_body, checkpoint_parts}
use Rattle.f2_bytes.proofs.CheckLaws.{flat_map_nil, none_fails}

-- where no element passes, each fails
pub find_none : {A : Type 0} (p : A → Bool) (xs : List A) → is_none (find p xs) ≡ true → (k : ℕ) (d : A) → k < length xs → p (get_or xs k d) ≡ false
find_none p [] h k d below = absurd (omega (arith, below))
find_none p (x ∷ xs) h k d below = go (p x) refl k below (λ rest j b. find_none p xs rest j d b)
  where
    go : (b : Bool) → p x ≡ b → (k : ℕ) → k < suc (length xs) → (is_none (find p xs) ≡ true → (j : ℕ) → j < length xs → p (get_or xs j d) ≡ false) → p (get_or (x ∷ xs) k d) ≡ false
    go true e k below more =
        let no : false ≡ true = rw e at h in
        absurd (false≢true no)
    go false e zero below more = e
    go false e (suc k) below more =
        let rest : is_none (find p xs) ≡ true = rw e at h in
        more rest k (omega (arith, below))

pub length-nil : {A : Type 0} (xs : List A) → (length xs == 0) ≡ true → xs ≡ []
length-nil [] e = refl
length-nil (x ∷ xs) e = absurd (omega (arith, eqb-true (suc (length xs)) 0 e))

-- each rule but the first is met
pub rule_met : (image : Image) → is_checked_body image ≡ true → (rule : ℕ) → 2 ≤ rule → rule < 13 → is_rule_met image rule ≡ true
rule_met image h rule low high =
    let none : is_none (failing_rule image 2) ≡ true = (and_parts (is_readable image) (is_none (failing_rule image 2)) h).1 in
    let at : not (is_rule_met image (get_or (range_with_len 2 11) (rule - 2) 0)) ≡ false
    = find_none (λ r. not (is_rule_met image r)) (range_with_len 2 11) none (rule - 2) 0 (omega (arith, low, high)) in
    let e : get_or (range_with_len 2 11) (rule - 2) 0 ≡ rule = get_or-range_with_len 2 11 (rule - 2) 0 (omega (arith, low, high)) ∙ omega (arith, low) in
    sym (ap (is_rule_met image) e) ∙ not-false _ at

-- each part of a rule has no defect
pub part_clear : (parts : List Part) → (length (flat_map part_defects parts) == 0) ≡ true → (k : ℕ) (d : Part) → k < length parts → part_defects (get_or parts k d) ≡ []
part_clear parts h k d below = flat_map_nil part_defects parts (length-nil (flat_map part_defects parts) h) k d below

pub chain_length-checked : (image : Image) → is_checked_body image ≡ true → chain_length image ≡ 0
unfolding defects checkpoint_parts
chain_length-checked image h =
    let met : is_rule_met image 2 ≡ true = rule_met image h 2 (omega arith) (omega arith) in
    let clear = part_clear (checkpoint_parts image) met 1 (record { number = 0; first_limit = 0; second_limit = λ _. 0; comparison = λ _ _. None }) (omega arith) in
    let same : not (chain_length image == 0) ≡ false = none_fails _ clear 0 0 (omega arith) (omega arith) (record { found = chain_length image; wanted = 0; fails = not (chain_length image == 0) }) refl in
    eqb-true (chain_length image) 0 (not-false _ same)
