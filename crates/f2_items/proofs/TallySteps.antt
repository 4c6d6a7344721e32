-- One name more in the counts of names.
use Rattle.std.proofs.Common.{◌≡◌, ℕ, ◌+◌, ◌<◌, ◌≤◌, List, [], ◌∷◌, ◌++◌, Bool, true, false, nat_lt, Option, Some, None, length, get_or, set, refl, sym, ap, ◌∙◌, ⊎_elim, ◌⊎◌, inl, inr, arith, get_or-set_same, get_or-set_other, length-set, eq-eqb}
use Rattle.std.specs.Prelude.{find, is_some, option_map, ◌==◌}
use Rattle.std.proofs.lemmas.Bool.{ne_eqb, eqb-true, eqb-false, ltb-false, false≢true}
use Rattle.f2_items.specs.Namings.{Naming, is_for, names_of, first_parent, IsTally}
use Rattle.f2_items.specs.declared.name_counts.Tallies.{Tallies}
use Rattle.f2_items.proofs.FoundItems.{is_some-find, count-pushed, count-left, find-left, find-kept, find-new}

none_of : {A : Type 0} (o : Option A) → is_some o ≡ false → o ≡ None
none_of None e = refl
none_of (Some x) e = absurd (false≢true (sym e))

one_some : (a b : ℕ) → Some a ≡ Some b → a ≡ b
one_some a b e = cc

zero_of : (n : ℕ) → nat_lt 0 n ≡ false → n ≡ 0
zero_of n e = let most = ltb-false 0 n e in omega (arith, most)

cases_same : (a b : ℕ) → (a ≡ b) ⊎ (a ≡ b → ⊥)
cases_same a b = go (a == b) refl
  where
    go : (t : Bool) → (a == b) ≡ t → (a ≡ b) ⊎ (a ≡ b → ⊥)
    go true e = inl (eqb-true a b e)
    go false e = inr (eqb-false a b e)

module _ (limit : ℕ) (namings : List Naming) (directory target : ℕ) where
  more : List Naming
  more = namings ++ (directory, target) ∷ []

  other_count : (k : ℕ) → (target ≡ k → ⊥) → names_of k more ≡ names_of k namings
  unfolding more
  other_count k away = count-left (is_for k) namings (directory, target) (ne_eqb target k away)

  other_parent : (k : ℕ) → (target ≡ k → ⊥) → first_parent k more ≡ first_parent k namings
  unfolding more
  other_parent k away = ap (option_map (λ (n : Naming). n.0)) (find-left (is_for k) namings (directory, target) (ne_eqb target k away))

  -- a name of a file past the limit
  pub past_limit : (t : Tallies) → limit ≤ target → IsTally limit namings t → IsTally limit (namings ++ (directory, target) ∷ []) t
  unfolding more
  past_limit t past is = record {
    counts_length = is.counts_length;
    parents_length = is.parents_length;
    counts = λ k low. is.counts k low ∙ sym (other_count k (λ e. omega (arith, e, low, past)));
    parents = λ k parent low e. is.parents k parent low (sym (other_parent k (λ e. omega (arith, e, low, past))) ∙ e);
  }

  -- a name of a file below it
  module _ (old new : Tallies) (below : target < length old.counts.items) (counts : new.counts.items ≡ set old.counts.items target (get_or old.counts.items target 0 + 1)) where
    new_count : IsTally limit namings old → (k : ℕ) → k < limit → get_or new.counts.items k 0 ≡ names_of k more
    unfolding more
    new_count is k low = ⊎_elim same away (cases_same target k)
      where
        same : target ≡ k → get_or new.counts.items k 0 ≡ names_of k more
        same e =
            ap (λ l. get_or l k 0) counts
            ∙ ap (λ j. get_or (set old.counts.items target (get_or old.counts.items target 0 + 1)) j 0) (sym e)
            ∙ get_or-set_same old.counts.items target (get_or old.counts.items target 0 + 1) 0 below
            ∙ ap (λ j. get_or old.counts.items j 0 + 1) e
            ∙ ap (λ n. n + 1) (is.counts k low)
            ∙ sym (count-pushed (is_for k) namings (directory, target) (eq-eqb target k e))

        away : (target ≡ k → ⊥) → get_or new.counts.items k 0 ≡ names_of k more
        away ne =
            let other : k ≡ target → ⊥ = λ e. ne (sym e) in
            ap (λ l. get_or l k 0) counts
            ∙ get_or-set_other old.counts.items target k (get_or old.counts.items target 0 + 1) 0 other
            ∙ is.counts k low
            ∙ sym (other_count k ne)

    -- the first one
    pub first_name : get_or old.counts.items target 0 ≡ 0 → target < length old.parents.items → new.parents.items ≡ set old.parents.items target directory
        → IsTally limit namings old → IsTally limit (namings ++ (directory, target) ∷ []) new
    unfolding more
    first_name none inside parents is = record {
      counts_length = ap length counts ∙ length-set old.counts.items target (get_or old.counts.items target 0 + 1) ∙ is.counts_length;
      parents_length = ap length parents ∙ length-set old.parents.items target directory ∙ is.parents_length;
      counts = new_count is;
      parents = λ k parent low first. ⊎_elim (same k parent low first) (away k parent low first) (cases_same target k);
    }
      where
        same : (k parent : ℕ) → k < limit → first_parent k more ≡ Some parent → target ≡ k → get_or new.parents.items k 0 ≡ parent
        same k parent low first e =
            let zero_names : names_of k namings ≡ 0 = sym (is.counts k low) ∙ ap (λ j. get_or old.counts.items j 0) (sym e) ∙ none in
            let unnamed : is_some (find (is_for k) namings) ≡ false = is_some-find (is_for k) namings ∙ ap (nat_lt 0) zero_names in
            let found : first_parent k more ≡ Some directory = ap (option_map (λ (n : Naming). n.0)) (find-new (is_for k) namings (directory, target) (none_of (find (is_for k) namings) unnamed) (eq-eqb target k e)) in
            let it : directory ≡ parent = one_some directory parent (sym found ∙ first) in
            ap (λ l. get_or l k 0) parents
            ∙ ap (λ j. get_or (set old.parents.items target directory) j 0) (sym e)
            ∙ get_or-set_same old.parents.items target directory 0 inside
            ∙ it

        away : (k parent : ℕ) → k < limit → first_parent k more ≡ Some parent → (target ≡ k → ⊥) → get_or new.parents.items k 0 ≡ parent
        away k parent low first ne =
            let other : k ≡ target → ⊥ = λ e. ne (sym e) in
            ap (λ l. get_or l k 0) parents
            ∙ get_or-set_other old.parents.items target k directory 0 other
            ∙ is.parents k parent low (sym (other_parent k ne) ∙ first)

    -- one after others
    pub further_name : (get_or old.counts.items target 0 ≡ 0 → ⊥) → new.parents ≡ old.parents → IsTally limit namings old → IsTally limit (namings ++ (directory, target) ∷ []) new
    unfolding more
    further_name some parents is = record {
      counts_length = ap length counts ∙ length-set old.counts.items target (get_or old.counts.items target 0 + 1) ∙ is.counts_length;
      parents_length = ap (λ v. length v.items) parents ∙ is.parents_length;
      counts = new_count is;
      parents = λ k parent low first. ap (λ v. get_or v.items k 0) parents ∙ is.parents k parent low (⊎_elim (same k parent low first) (λ ne. sym (other_parent k ne) ∙ first) (cases_same target k));
    }
      where
        same : (k parent : ℕ) → k < limit → first_parent k more ≡ Some parent → target ≡ k → first_parent k namings ≡ Some parent
        same k parent low first e = go (find (is_for k) namings) refl
          where
            go : (o : Option Naming) → find (is_for k) namings ≡ o → first_parent k namings ≡ Some parent
            go None o =
                let counted : names_of k namings ≡ 0 = zero_of (names_of k namings) (sym (is_some-find (is_for k) namings) ∙ ap is_some o) in
                absurd (some (ap (λ j. get_or old.counts.items j 0) e ∙ is.counts k low ∙ counted))
            go (Some n) o =
                ap (option_map (λ (n : Naming). n.0)) (o ∙ sym (find-kept (is_for k) namings (directory, target) n o)) ∙ first

-- the first directory that names a file
pub unnamed : (target : ℕ) (namings : List Naming) → names_of target namings ≡ 0 → first_parent target namings ≡ None
unnamed target namings none =
    ap (option_map (λ (n : Naming). n.0)) (none_of (find (is_for target) namings) (is_some-find (is_for target) namings ∙ ap (nat_lt 0) none))

pub named : (limit target : ℕ) (namings : List Naming) (t : Tallies) → IsTally limit namings t → target < limit → (names_of target namings ≡ 0 → ⊥)
    → first_parent target namings ≡ Some (get_or t.parents.items target 0)
named limit target namings t is low some = go (find (is_for target) namings) refl
  where
    go : (o : Option Naming) → find (is_for target) namings ≡ o → first_parent target namings ≡ Some (get_or t.parents.items target 0)
    go None e = absurd (some (zero_of (names_of target namings) (sym (is_some-find (is_for target) namings) ∙ ap is_some e)))
    go (Some n) e =
        let first : first_parent target namings ≡ Some n.0 = ap (option_map (λ (n : Naming). n.0)) e in
        first ∙ ap Some (sym (is.parents target n.0 low first))
