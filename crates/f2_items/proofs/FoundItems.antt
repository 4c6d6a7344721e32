-- The first element of a list that passes a test, and how many pass it.
use Rattle.std.proofs.Common.{◌≡◌, ℕ, ◌+◌, List, [], ◌∷◌, ◌++◌, Bool, true, false, cond, nat_lt, Option, Some, None, sum_by, refl, sym, ap, ◌∙◌, arith}
use Rattle.std.specs.Prelude.{find, count_by, is_some}
use Rattle.std.specs.Option.{option_or}
use Rattle.std.proofs.lemmas.Bool.{lt-ltb}
use Rattle.std.proofs.lemmas.List.Folds.{find-append}
use Rattle.std.proofs.lemmas.List.Sums.{sum_by-cons, sum_by_push}

-- some element is found just where some are counted
pub is_some-find : {A : Type 0} (p : A → Bool) (xs : List A) → is_some (find p xs) ≡ nat_lt 0 (count_by p xs)
is_some-find p [] = refl
is_some-find {A = A} p (x ∷ xs) = go (p x) refl (is_some-find p xs) ∙ ap (nat_lt 0) (sym (sum_by-cons digit x xs))
  where
    digit : A → ℕ
    digit = λ y. cond (p y) 1 0

    go : (b : Bool) → p x ≡ b → is_some (find p xs) ≡ nat_lt 0 (sum_by digit xs) → is_some (find p (x ∷ xs)) ≡ nat_lt 0 (digit x + sum_by digit xs)
    go true e ih =
        let one : digit x ≡ 1 = rw e refl in
        ap (λ b. is_some (cond b (Some x) (find p xs))) e ∙ sym (lt-ltb 0 (digit x + sum_by digit xs) (omega (arith, one)))
    go false e ih =
        let none : digit x + sum_by digit xs ≡ sum_by digit xs = rw e (omega arith) in
        ap (λ b. is_some (cond b (Some x) (find p xs))) e ∙ ih ∙ ap (nat_lt 0) (sym none)

-- one element more
pub count-pushed : {A : Type 0} (p : A → Bool) (xs : List A) (x : A) → p x ≡ true → count_by p (xs ++ x ∷ []) ≡ count_by p xs + 1
count-pushed p xs x e = sum_by_push (λ y. cond (p y) 1 0) xs x ∙ ap (λ b. count_by p xs + cond b 1 0) e

pub count-left : {A : Type 0} (p : A → Bool) (xs : List A) (x : A) → p x ≡ false → count_by p (xs ++ x ∷ []) ≡ count_by p xs
count-left p xs x e =
    let none : count_by p xs + 0 ≡ count_by p xs = omega arith in
    sum_by_push (λ y. cond (p y) 1 0) xs x ∙ ap (λ b. count_by p xs + cond b 1 0) e ∙ none

pub find-left : {A : Type 0} (p : A → Bool) (xs : List A) (x : A) → p x ≡ false → find p (xs ++ x ∷ []) ≡ find p xs
find-left {A = A} p xs x e = find-append p xs (x ∷ []) ∙ ap (λ b. option_or (find p xs) (cond b (Some x) None)) e ∙ same (find p xs)
  where
    same : (o : Option A) → option_or o None ≡ o
    same None = refl
    same (Some y) = refl

pub find-kept : {A : Type 0} (p : A → Bool) (xs : List A) (x y : A) → find p xs ≡ Some y → find p (xs ++ x ∷ []) ≡ Some y
find-kept p xs x y e = find-append p xs (x ∷ []) ∙ ap (λ o. option_or o (find p (x ∷ []))) e

pub find-new : {A : Type 0} (p : A → Bool) (xs : List A) (x : A) → find p xs ≡ None → p x ≡ true → find p (xs ++ x ∷ []) ≡ Some x
find-new p xs x none e = find-append p xs (x ∷ []) ∙ ap (λ o. option_or o (find p (x ∷ []))) none ∙ ap (λ b. cond b (Some x) None) e
