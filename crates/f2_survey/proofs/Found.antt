-- The first element that passes and how many do, as a list grows at its end.
use Rattle.std.proofs.Common.{◌≡◌, ℕ, ◌+◌, ◌≤◌, List, [], ◌∷◌, ◌++◌, Bool, true, false, cond, Option, Some, None, refl, sym, ap, ◌∙◌, arith}
use Rattle.std.specs.Prelude.{find, count_by}
use Rattle.std.specs.Option.{option_or}
use Rattle.std.proofs.lemmas.List.Sums.{sum_by-cons, sum_by_push}
use Rattle.std.proofs.lemmas.List.Folds.{find-append}

pub find_push : {X : Type 0} (p : X → Bool) (xs : List X) (x : X) → find p (xs ++ x ∷ []) ≡ option_or (find p xs) (cond (p x) (Some x) None)
find_push p xs x = find-append p xs (x ∷ [])

pub count_push : {X : Type 0} (p : X → Bool) (xs : List X) (x : X) → count_by p (xs ++ x ∷ []) ≡ count_by p xs + cond (p x) 1 0
count_push p xs x = sum_by_push (λ y. cond (p y) 1 0) xs x

none_past : {X : Type 0} (b : Bool) (x : X) (o : Option X) → cond b (Some x) o ≡ None → (b ≡ false) × (o ≡ None)
none_past true x o e = absurd (cc e)
none_past false x o e = (refl, e)

-- none is found just where the count is 0
pub count-none : {X : Type 0} (p : X → Bool) (xs : List X) → find p xs ≡ None → count_by p xs ≡ 0
count-none p [] e = refl
count-none p (x ∷ xs) e =
    let parts = none_past (p x) x (find p xs) e in
    sum_by-cons (λ y. cond (p y) 1 0) x xs ∙ (λ i. cond {A = ℕ} (parts.0 i) 1 0 + count-none p xs parts.1 i)

some_first : {X : Type 0} (b : Bool) (x y : X) (o : Option X) (n : ℕ) → cond b (Some x) o ≡ Some y → (o ≡ Some y → 1 ≤ n) → 1 ≤ cond b 1 0 + n
some_first true x y o n e more = omega arith
some_first false x y o n e more = let h = more e in omega (arith, h)

pub count-some : {X : Type 0} (p : X → Bool) (xs : List X) (x : X) → find p xs ≡ Some x → 1 ≤ count_by p xs
count-some p [] x e = absurd (cc e)
count-some p (y ∷ xs) x e =
    let h = some_first (p y) y x (find p xs) (count_by p xs) e (λ rest. count-some p xs x rest) in
    let s : count_by p (y ∷ xs) ≡ cond (p y) 1 0 + count_by p xs = sum_by-cons (λ z. cond (p z) 1 0) y xs in
    omega (arith, h, s)

-- what is found passes
pub find-passes : {X : Type 0} (p : X → Bool) (xs : List X) (x : X) → find p xs ≡ Some x → p x ≡ true
find-passes p [] x e = absurd (cc e)
find-passes {X = X} p (y ∷ xs) x e = go (p y) refl e (λ rest. find-passes p xs x rest)
  where
    go : (b : Bool) → p y ≡ b → cond b (Some y) (find p xs) ≡ Some x → (find p xs ≡ Some x → p x ≡ true) → p x ≡ true
    go true h f more = ap p (sym (first y x f)) ∙ h
      where
        first : (y x : X) → Some y ≡ Some x → y ≡ x
        first y x f = cc f
    go false h f more = more f
