-- One name more of a list of names.
use Rattle.std.proofs.Common.{◌≡◌, ℕ, ◌+◌, ◌<◌, List, [], ◌∷◌, ◌++◌, length, get_or, take, Option, subst, sym, ap, ◌∙◌, arith, append_assoc, append-nil}
use Rattle.std.specs.Prelude.{flat_map, filter_map, ◌==◌}
use Rattle.std.specs.List.{cons_option}
use Rattle.std.proofs.lemmas.List.{take_more}
use Rattle.std.proofs.lemmas.List.Concat.{flat_map-append}
use Rattle.std.proofs.lemmas.List.Elements.{filter_map-append}
use Rattle.std.proofs.lemmas.List.Sums.{sum_by_more}
use Rattle.f2_bytes.specs.Check.{Defect, digit}
use Rattle.f2_defects.specs.Collected.{Collection, Collects}
use Rattle.f2_items.specs.Counted.{IsCounted, times_in}
use Rattle.f2_survey.specs.declared.nid_slot_names.Name.{Name}

pub flat_map_step : {X A : Type 0} (f : X → List A) (xs : List X) (i : ℕ) (d : X) → i < length xs → flat_map f (take (i + 1) xs) ≡ flat_map f (take i xs) ++ f (get_or xs i d)
flat_map_step f xs i d low =
    ap (flat_map f) (take_more xs i d low)
    ∙ flat_map-append f (take i xs) (get_or xs i d ∷ [])
    ∙ ap (λ l. flat_map f (take i xs) ++ l) (append-nil (f (get_or xs i d)))

pub filter_map_step : {X A : Type 0} (f : X → Option A) (xs : List X) (i : ℕ) (d : X) → i < length xs → filter_map f (take (i + 1) xs) ≡ filter_map f (take i xs) ++ cons_option (f (get_or xs i d)) []
filter_map_step f xs i d low =
    ap (filter_map f) (take_more xs i d low)
    ∙ filter_map-append f (take i xs) (get_or xs i d ∷ [])

-- a longer list of defects
pub collects_same : (c : Collection) (old new : List Defect) → old ≡ new → Collects c old → Collects c new
collects_same c old new same collects = subst (λ (l : List Defect). Collects c l) same collects

pub collects_step : {X : Type 0} (c : Collection) (defects : List Defect) (f : X → List Defect) (xs : List X) (i : ℕ) (d : X) → i < length xs
    → Collects c ((defects ++ flat_map f (take i xs)) ++ f (get_or xs i d)) → Collects c (defects ++ flat_map f (take (i + 1) xs))
collects_step c defects f xs i d low collects =
    collects_same c ((defects ++ flat_map f (take i xs)) ++ f (get_or xs i d)) (defects ++ flat_map f (take (i + 1) xs))
    (append_assoc defects (flat_map f (take i xs)) (f (get_or xs i d)) ∙ ap (λ l. defects ++ l) (sym (flat_map_step f xs i d low)))
    collects

-- counts that are the same for each number but 0
pub counted_same : (limit : ℕ) (counts : List ℕ) (f g : ℕ → ℕ) → ((n : ℕ) → f n ≡ g n) → IsCounted limit counts f → IsCounted limit counts g
counted_same limit counts f g same counted = subst (λ (h : ℕ → ℕ). IsCounted limit counts h) (λ i n. same n i) counted

pub counted_step : (limit : ℕ) (counts : List ℕ) (times : ℕ → ℕ) (xs : List Name) (i : ℕ) (d : Name) → i < length xs
    → IsCounted limit counts (λ n. (times n + times_in (take i xs) n) + digit ((get_or xs i d).nid == n)) → IsCounted limit counts (λ n. times n + times_in (take (i + 1) xs) n)
counted_step limit counts times xs i d low counted =
    counted_same limit counts (λ n. (times n + times_in (take i xs) n) + digit ((get_or xs i d).nid == n)) (λ n. times n + times_in (take (i + 1) xs) n)
    (λ n. let more = sum_by_more (λ (name : Name). digit (name.nid == n)) xs i d low in omega (arith, more))
    counted
