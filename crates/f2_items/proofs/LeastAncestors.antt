-- Ancestors by least parents are ancestors by a list of them.
use Rattle.std.proofs.Common.{◌≡◌, ℕ, zero, suc, ◌+◌, ◌<◌, false, ◌==◌, List, Option, Some, None, length, get_or, refl, sym, ap, ◌∙◌, arith}
use Rattle.std.specs.Prelude.{option_and_then}
use Rattle.std.specs.Option.{option_map_or}
use Rattle.std.specs.List.{list_any}
use Rattle.f2_bytes.specs.Bytes.{Image, numbers_below}
use Rattle.f2_bytes.specs.Check.{nids, least_parent, least_ancestor, is_least_ancestor}
use Rattle.f2_items.specs.Ancestors.{parent_in, steps, is_own_ancestor}
use Rattle.f2_items.proofs.Ascents.{steps-below}
use Rattle.f2_items.proofs.Climbs.{parent_in-low}

pub least_ancestor-is : (image : Image) (n i : ℕ) → least_ancestor image n i ≡ steps (least_parent image) n i
unfolding least_ancestor steps
least_ancestor-is image zero i = refl
least_ancestor-is image (suc n) i = ap (option_and_then (least_parent image)) (least_ancestor-is image n i)

pub is_least_ancestor-is : (image : Image) (i : ℕ) → is_least_ancestor image i ≡ is_own_ancestor (least_parent image) (nids image) i
unfolding is_least_ancestor is_own_ancestor
is_least_ancestor-is image i = λ j. list_any (λ n. option_map_or (λ up. up == i) (least_ancestor-is image (n + 1) i j) false) (numbers_below (nids image))

-- two parent functions that agree below a limit which the parents stay below
module _ (parent other : ℕ → Option ℕ) (limit : ℕ) (same : (k : ℕ) → k < limit → parent k ≡ other k) (low : (k up : ℕ) → k < limit → parent k ≡ Some up → up < limit) (i : ℕ) (inside : i < limit) where
  steps-same : (n : ℕ) → steps parent n i ≡ steps other n i
  unfolding steps
  steps-same zero = refl
  steps-same (suc n) = go (steps parent n i) refl ∙ ap (option_and_then other) (steps-same n)
    where
      go : (o : Option ℕ) → steps parent n i ≡ o → option_and_then parent (steps parent n i) ≡ option_and_then other (steps parent n i)
      go None e = ap (option_and_then parent) e ∙ sym (ap (option_and_then other) e)
      go (Some up) e =
          ap (option_and_then parent) e ∙ same up (steps-below parent limit i low inside n up e) ∙ sym (ap (option_and_then other) e)

  pub is_own_ancestor-same : is_own_ancestor parent limit i ≡ is_own_ancestor other limit i
  unfolding is_own_ancestor
  is_own_ancestor-same = λ j. list_any (λ n. option_map_or (λ up. up == i) (steps-same (n + 1) j) false) (numbers_below limit)

-- where a list has the least parents, its own ancestors are the directories that are their own ancestors
pub is_least_ancestor-in : (image : Image) (parents : List ℕ) → length parents ≡ nids image
    → ((k : ℕ) → k < length parents → get_or parents k 0 < length parents)
    → ((k : ℕ) → k < nids image → parent_in parents k ≡ least_parent image k)
    → (i : ℕ) → i < nids image → is_own_ancestor (parent_in parents) (length parents) i ≡ is_least_ancestor image i
is_least_ancestor-in image parents all low same i inside =
    is_own_ancestor-same (parent_in parents) (least_parent image) (length parents)
    (λ k h. same k (omega (arith, h, all))) (parent_in-low parents low) i (omega (arith, inside, all))
    ∙ ap (λ limit. is_own_ancestor (least_parent image) limit i) all
    ∙ sym (is_least_ancestor-is image i)
