-- How many pass, whether some pass, and whether a first one is found.
use Rattle.std.proofs.Common.{◌≡◌, ℕ, ◌+◌, ◌<◌, List, [], ◌∷◌, ◌++◌, Bool, true, false, cond, sum_by, refl, sym, ap, ◌∙◌, arith}
use Rattle.std.specs.Prelude.{find, count_by, is_some, nat_lt}
use Rattle.std.specs.List.{list_any}
use Rattle.std.proofs.lemmas.Bool.{lt-ltb}
use Rattle.std.proofs.lemmas.List.Sums.{sum_by-cons, sum_by-append}
use Rattle.f2_bytes.specs.Bytes.{numbers_below, count_below}
use Rattle.f2_bytes.proofs.Below.{some_below}
use Rattle.f2_survey.proofs.DirectOffsets.{numbers-suc}

pub some_counted : {A : Type 0} (p : A → Bool) (xs : List A) → nat_lt 0 (count_by p xs) ≡ list_any p xs
some_counted p [] = refl
some_counted {A = A} p (x ∷ xs) = ap (nat_lt 0) (sum_by-cons f x xs) ∙ go (p x) refl (some_counted p xs)
  where
    f : A → ℕ
    f = λ y. cond (p y) 1 0

    go : (b : Bool) → p x ≡ b → nat_lt 0 (sum_by f xs) ≡ list_any p xs → nat_lt 0 (f x + sum_by f xs) ≡ list_any p (x ∷ xs)
    go true e ih =
        let one : f x ≡ 1 = rw e refl in
        let any : list_any p (x ∷ xs) ≡ true = rw e refl in
        lt-ltb 0 (f x + sum_by f xs) (omega (arith, one)) ∙ sym any
    go false e ih =
        let none : f x ≡ 0 = rw e refl in
        let any : list_any p (x ∷ xs) ≡ list_any p xs = rw e refl in
        ap (nat_lt 0) (let s : f x + sum_by f xs ≡ sum_by f xs = omega (arith, none) in s) ∙ ih ∙ sym any

pub some_found : {A : Type 0} (p : A → Bool) (xs : List A) → list_any p xs ≡ is_some (find p xs)
some_found p [] = refl
some_found {A = A} p (x ∷ xs) = go (p x) refl (some_found p xs)
  where
    go : (b : Bool) → p x ≡ b → list_any p xs ≡ is_some (find p xs) → list_any p (x ∷ xs) ≡ is_some (find p (x ∷ xs))
    go true e ih = rw e refl
    go false e ih = rw e ih

pub found_counted : {A : Type 0} (p : A → Bool) (xs : List A) → nat_lt 0 (count_by p xs) ≡ is_some (find p xs)
found_counted p xs = some_counted p xs ∙ some_found p xs

-- where none passes, each one fails
pub none_pass : (p : ℕ → Bool) (n k : ℕ) → list_any p (numbers_below n) ≡ false → k < n → p k ≡ false
none_pass p n k none low = go (p k) refl
  where
    go : (b : Bool) → p k ≡ b → b ≡ false
    go false e = refl
    go true e = let some = some_below p n k low e in cc

-- where none is counted, none passes
pub none_counted : (p : ℕ → Bool) (n k : ℕ) → count_below n p ≡ 0 → k < n → p k ≡ false
none_counted p n k none low = none_pass p n k (sym (some_counted p (numbers_below n)) ∙ ap (nat_lt 0) none) low

-- one number more
count_more : (p : ℕ → Bool) (n : ℕ) → count_below (n + 1) p ≡ count_below n p + cond (p n) 1 0
count_more p n =
    let more : numbers_below (n + 1) ≡ numbers_below n ++ n ∷ [] = ap numbers_below (omega arith) ∙ numbers-suc n in
    let last : 0 + cond {A = ℕ} (p n) 1 0 ≡ cond (p n) 1 0 = omega arith in
    ap (count_by p) more ∙ sum_by-append (λ k. cond (p k) 1 0) (numbers_below n) (n ∷ []) ∙ ap (λ k. count_below n p + k) last

pub count_none : (p : ℕ → Bool) → 0 ≡ count_below 0 p
unfolding numbers_below
count_none p = refl

-- a count that goes up where the number passes
pub count_step : (p : ℕ → Bool) (n before after : ℕ) (b : Bool) → p n ≡ b → before ≡ count_below n p → after ≡ before + cond b 1 0 → after ≡ count_below (n + 1) p
count_step p n before after b is counted up =
    up ∙ (λ i. counted i + cond {A = ℕ} (sym is i) 1 0) ∙ sym (count_more p n)
