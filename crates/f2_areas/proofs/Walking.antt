-- Comparisons that are taken one after the other.
use Rattle.std.proofs.Common.{◌≡◌, ℕ, zero, suc, ◌+◌, ◌<◌, [], ◌∷◌, ◌++◌, Option, None, refl, sym, ap, subst, ◌∙◌, arith, append_assoc, append-nil}
use Rattle.std.specs.Prelude.{filter_map, flat_map}
use Rattle.std.specs.List.{cons_option}
use Rattle.std.proofs.lemmas.List.Elements.{filter_map-append}
use Rattle.f2_bytes.specs.Bytes.{numbers_below}
use Rattle.f2_bytes.specs.Check.{Part, Defect, Comparison, defect_of, defects_at, part_defects}
use Rattle.f2_defects.specs.Collected.{Collection, Collects, Compares, defects_of}
use Rattle.f2_areas.specs.Walked.{defects_before, HasWalked}
use Rattle.f2_survey.proofs.DirectOffsets.{numbers-suc}
use Rattle.f2_view.proofs.Rows.{flat_map-more}

module _ (p : Part) where
  -- the defect at a pair
  abbrev at : ℕ → ℕ → Option Defect
  at a k = defect_of p.number a k (p.comparison a k)

  before-none : defects_before p 0 0 ≡ []
  unfolding defects_before numbers_below
  before-none = refl

  before-more : (a b : ℕ) → defects_before p a (b + 1) ≡ defects_before p a b ++ defects_of p.number a b (p.comparison a b)
  unfolding defects_before
  before-more a b =
      let more : numbers_below (b + 1) ≡ numbers_below b ++ b ∷ [] = ap numbers_below (omega arith) ∙ numbers-suc b in
      ap (λ l. flat_map (defects_at p) (numbers_below a) ++ filter_map (at a) l) more
      ∙ ap (λ l. flat_map (defects_at p) (numbers_below a) ++ l) (filter_map-append (at a) (numbers_below b) (b ∷ []))
      ∙ sym (append_assoc (flat_map (defects_at p) (numbers_below a)) (filter_map (at a) (numbers_below b)) (defects_of p.number a b (p.comparison a b)))

  before-start : (a : ℕ) → defects_before p a 0 ≡ flat_map (defects_at p) (numbers_below a)
  unfolding defects_before numbers_below
  before-start a = append-nil (flat_map (defects_at p) (numbers_below a))

  before-row : (a : ℕ) → defects_before p a (p.second_limit a) ≡ defects_before p (a + 1) 0
  unfolding defects_before defects_at
  before-row a = sym (before-start (a + 1) ∙ flat_map-more (defects_at p) a)

  before-all : defects_before p p.first_limit 0 ≡ part_defects p
  unfolding part_defects
  before-all = before-start p.first_limit

  -- nothing so far
  pub walk-none : (c : Collection) → c.part ≡ p.number → Collects c [] → HasWalked c p 0 0
  walk-none c part none = record { part = part; collects = subst (Collects c) (sym before-none) none }

  -- one comparison more
  pub walk-more : (old new : Collection) (a b : ℕ) (o : Option Comparison) → new.part ≡ old.part → Compares old new a b o → o ≡ p.comparison a b
      → HasWalked old p a b → HasWalked new p a (b + 1)
  walk-more old new a b o part compares is so_far = record {
    part = part ∙ so_far.part;
    collects = subst (Collects new) (same ∙ sym (before-more a b)) (compares (defects_before p a b) so_far.collects);
  }
    where
      same : defects_before p a b ++ defects_of old.part a b o ≡ defects_before p a b ++ defects_of p.number a b (p.comparison a b)
      same = λ i. defects_before p a b ++ defects_of (so_far.part i) a b (is i)

  -- all of a row
  pub walk-row : (c : Collection) (a n : ℕ) → n ≡ p.second_limit a → HasWalked c p a n → HasWalked c p (a + 1) 0
  walk-row c a n all so_far = record {
    part = so_far.part;
    collects = subst (Collects c) (ap (defects_before p a) all ∙ before-row a) so_far.collects;
  }

  -- a row with no defect
  clear-below : (a n : ℕ) → ((k : ℕ) → k < n → at a k ≡ None) → filter_map (at a) (numbers_below n) ≡ []
  unfolding numbers_below
  clear-below a zero none = refl
  clear-below a (suc n) none =
      ap (filter_map (at a)) (numbers-suc n)
      ∙ filter_map-append (at a) (numbers_below n) (n ∷ [])
      ∙ (λ i. clear-below a n (λ k low. none k (omega (arith, low))) i ++ cons_option (none n (omega arith) i) [])

  pub walk-clear : (c : Collection) (a : ℕ) → ((k : ℕ) → k < p.second_limit a → at a k ≡ None) → HasWalked c p a 0 → HasWalked c p (a + 1) 0
  unfolding defects_before
  walk-clear c a none so_far = record {
    part = so_far.part;
    collects = subst (Collects c) (before-start a ∙ sym (append-nil (flat_map (defects_at p) (numbers_below a))) ∙ ap (λ l. flat_map (defects_at p) (numbers_below a) ++ l) (sym (clear-below a (p.second_limit a) none)) ∙ before-row a) so_far.collects;
  }

  -- all of a part
  pub walk-all : (c : Collection) (n : ℕ) → n ≡ p.first_limit → HasWalked c p n 0 → Collects c (part_defects p)
  walk-all c n all so_far = subst (Collects c) (ap (λ k. defects_before p k 0) all ∙ before-all) so_far.collects
