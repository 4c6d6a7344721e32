-- What passes two tests among the first elements of a list.
use Rattle.std.proofs.Common.{◌≡◌, ℕ, ◌+◌, ◌<◌, List, [], ◌∷◌, ◌++◌, Bool, true, false, ◌&&◌, cond, filter, take, length, get_or, refl, ap, ◌∙◌}
use Rattle.std.proofs.lemmas.List.{append-nil}
use Rattle.std.proofs.lemmas.List.Elements.{filter-append, filter_more}

module _ (t r : ℕ → Bool) (xs : List ℕ) (i d : ℕ) (low : i < length xs) where
  abbrev x : ℕ
  x = get_or xs i d

  last : (b c : Bool) → t x ≡ c → filter t (cond b (x ∷ []) []) ≡ cond (c && b) (x ∷ []) []
  last true true e = ap (λ q. cond q (x ∷ []) []) e
  last true false e = ap (λ q. cond q (x ∷ []) []) e
  last false true e = refl
  last false false e = refl

  kept_next : filter t (filter r (take (i + 1) xs)) ≡ filter t (filter r (take i xs)) ++ cond (t x && r x) (x ∷ []) []
  kept_next =
      ap (filter t) (filter_more r xs i d low)
      ∙ filter-append t (filter r (take i xs)) (cond (r x) (x ∷ []) [])
      ∙ ap (λ ys. filter t (filter r (take i xs)) ++ ys) (last (r x) (t x) refl)

  pub kept_yes : (t x && r x) ≡ true → filter t (filter r (take (i + 1) xs)) ≡ filter t (filter r (take i xs)) ++ x ∷ []
  kept_yes passes = kept_next ∙ ap (λ q. filter t (filter r (take i xs)) ++ cond q (x ∷ []) []) passes

  pub kept_no : (t x && r x) ≡ false → filter t (filter r (take (i + 1) xs)) ≡ filter t (filter r (take i xs))
  kept_no fails = kept_next ∙ ap (λ q. filter t (filter r (take i xs)) ++ cond q (x ∷ []) []) fails ∙ append-nil (filter t (filter r (take i xs)))
