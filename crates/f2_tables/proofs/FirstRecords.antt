-- The first record of each number in a journal.
use Rattle.std.proofs.Common.{◌≡◌, ℕ, Bool, true, false, cond, ◌==◌, List, [], ◌∷◌, ◌++◌, take, length, get_or, Option, Some, None, refl, sym, ap, subst, ◌∙◌, ◌+◌, ◌<◌}
use Rattle.std.specs.Prelude.{find, option_map, slice_get}
use Rattle.std.specs.Option.{option_or}
use Rattle.std.proofs.lemmas.List.{take_more}
use Rattle.std.proofs.lemmas.List.Folds.{find-append}
use Rattle.std.proofs.lemmas.Option.{slice_get-get_or}
use Rattle.f2_bytes.specs.Journal.{NatEntry, NatRecord, SitEntry, SitRecord, FitsSitEntry}
use Rattle.f2_bytes.specs.NodeAddressTable.{nat_journal_entry}
use Rattle.f2_bytes.specs.SegmentTable.{sit_journal_entry}
use Rattle.f2_tables.specs.Tables.{value_at, or_at}

-- what is found among records and one more
found_more : {R T : Type 0} (test : R → Bool) (value : R → T) (rs : List R) (r : R) → option_map value (find test (rs ++ r ∷ [])) ≡ or_at (option_map value (find test rs)) (test r) (value r)
found_more test value rs r = ap (option_map value) (find-append test rs (r ∷ [])) ∙ both test value r (find test rs) (test r)
  where
    both : {R T : Type 0} (test : R → Bool) (value : R → T) (r : R) (first : Option R) (here : Bool) → option_map value (option_or first (cond here (Some r) None)) ≡ or_at (option_map value first) here (value r)
    both test value r (Some x) here = refl
    both test value r None true = refl
    both test value r None false = refl

-- the entry that is kept, as the format has it
kept_as : {A B : Type 0} (f : A → B) (o : Option A) (meant : Bool) (a : A) → option_map f (or_at o meant a) ≡ or_at (option_map f o) meant (f a)
kept_as f (Some x) meant a = refl
kept_as f None true a = refl
kept_as f None false a = refl

some_same : {R : Type 0} (a b : R) → Some a ≡ Some b → a ≡ b
some_same a b is = cc

-- one record more
module _ {R A T : Type 0} (number : R → ℕ) (value : R → T) (f : A → T) where
  pub first-more : (rs : List R) (k : ℕ) (r : R) (old new : List (ℕ × A)) (a : A) → k < length rs → slice_get rs k ≡ Some r → f a ≡ value r
      → ((n : ℕ) → option_map f (value_at old n) ≡ option_map value (find (λ x. number x == n) (take k rs)))
      → ((n : ℕ) → value_at new n ≡ or_at (value_at old n) (number r == n) a)
      → (n : ℕ) → option_map f (value_at new n) ≡ option_map value (find (λ x. number x == n) (take (k + 1) rs))
  first-more rs k r old new a inside is same so_far put n =
      let here : get_or rs k r ≡ r = some_same (get_or rs k r) r (sym (slice_get-get_or rs k r inside) ∙ is) in
      ap (option_map f) (put n) ∙ kept_as f (value_at old n) (number r == n) a
      ∙ (λ i. or_at (so_far n i) (number r == n) (same i))
      ∙ sym (found_more (λ x. number x == n) value (take k rs) r)
      ∙ ap (λ l. option_map value (find (λ x. number x == n) l)) (ap (λ y. take k rs ++ y ∷ []) (sym here) ∙ sym (take_more rs k r inside))

-- of either journal
pub nat-more : {A : Type 0} (f : A → NatEntry) (rs : List NatRecord) (k : ℕ) (r : NatRecord) (old new : List (ℕ × A)) (a : A) → k < length rs → slice_get rs k ≡ Some r → f a ≡ r.entry
    → ((n : ℕ) → option_map f (value_at old n) ≡ nat_journal_entry (take k rs) n) → ((n : ℕ) → value_at new n ≡ or_at (value_at old n) (r.nid == n) a)
    → (n : ℕ) → option_map f (value_at new n) ≡ nat_journal_entry (take (k + 1) rs) n
unfolding nat_journal_entry
nat-more f rs k r old new a inside is same so_far put n = first-more (λ (x : NatRecord). x.nid) (λ (x : NatRecord). x.entry) f rs k r old new a inside is same so_far put n

pub sit-more : {A : Type 0} (f : A → SitEntry) (rs : List SitRecord) (k : ℕ) (r : SitRecord) (old new : List (ℕ × A)) (a : A) → k < length rs → slice_get rs k ≡ Some r → f a ≡ r.entry
    → ((n : ℕ) → option_map f (value_at old n) ≡ sit_journal_entry (take k rs) n) → ((n : ℕ) → value_at new n ≡ or_at (value_at old n) (r.segment == n) a)
    → (n : ℕ) → option_map f (value_at new n) ≡ sit_journal_entry (take (k + 1) rs) n
unfolding sit_journal_entry
sit-more f rs k r old new a inside is same so_far put n = first-more (λ (x : SitRecord). x.segment) (λ (x : SitRecord). x.entry) f rs k r old new a inside is same so_far put n

-- before the first record
pub nat-none : {A : Type 0} (f : A → NatEntry) (none : List (ℕ × A)) (n : ℕ) → none ≡ [] → option_map f (value_at none n) ≡ nat_journal_entry [] n
unfolding nat_journal_entry
nat-none f none n is = ap (λ l. option_map f (value_at l n)) is

pub sit-none : {A : Type 0} (f : A → SitEntry) (none : List (ℕ × A)) (n : ℕ) → none ≡ [] → option_map f (value_at none n) ≡ sit_journal_entry [] n
unfolding sit_journal_entry
sit-none f none n is = ap (λ l. option_map f (value_at l n)) is

-- what is known of each entry
pub none-fits : {A : Type 0} (f : A → SitEntry) (none : List (ℕ × A)) (n : ℕ) (e : SitEntry) → none ≡ [] → option_map f (value_at none n) ≡ Some e → FitsSitEntry e
none-fits f none n e empty is = let never : None ≡ Some e = sym (ap (λ l. option_map f (value_at l n)) empty) ∙ is in cc

pub more-fits : {A : Type 0} (f : A → SitEntry) (old new : List (ℕ × A)) (n at : ℕ) (a : A) (e : SitEntry) → ((x : SitEntry) → option_map f (value_at old n) ≡ Some x → FitsSitEntry x) → FitsSitEntry (f a)
    → value_at new n ≡ or_at (value_at old n) (at == n) a → option_map f (value_at new n) ≡ Some e → FitsSitEntry e
more-fits f old new n at a e each here put is = of (value_at old n) (at == n) each (sym (ap (option_map f) put) ∙ is)
  where
    of : (o : Option _) (meant : Bool) → ((x : SitEntry) → option_map f o ≡ Some x → FitsSitEntry x) → option_map f (or_at o meant a) ≡ Some e → FitsSitEntry e
    of (Some x) meant all same = all e same
    of None true all same = subst FitsSitEntry (some_same (f a) e same) here
    of None false all same = cc
