-- Sums and counts over the numbers below a limit: one number's part in them, and that of two.
use Rattle.std.proofs.Common.{◌≡◌, ℕ, zero, suc, ◌+◌, ◌<◌, ◌≤◌, List, [], ◌∷◌, Bool, true, false, cond, filter, sum_by, refl, sym, ap, ◌∙◌, ⊎_elim, arith}
use Rattle.std.proofs.lemmas.Bool.{cases_lt}
use Rattle.std.proofs.lemmas.List.Sums.{sum_by-cons}
use Rattle.f2_bytes.specs.Bytes.{numbers_below, count_below}
use Rattle.f2_bytes.proofs.Counts.{sum_below-suc}

-- one number's value is part of the sum
pub summed : (f : ℕ → ℕ) (n i : ℕ) → i < n → f i ≤ sum_by f (numbers_below n)
summed f zero i h = absurd (omega (arith, h))
summed f (suc n) i h =
    let more = sum_below-suc f n in
    ⊎_elim (λ below. let ih = summed f n i below in omega (arith, more, ih))
    (λ past. let same : f i ≡ f n = ap f (omega (arith, h, past)) in omega (arith, more, same))
    (cases_lt i n)

-- so are the values of two
pub summed_both : (f : ℕ → ℕ) (n i j : ℕ) → i < j → j < n → f i + f j ≤ sum_by f (numbers_below n)
summed_both f zero i j h below = absurd (omega (arith, below))
summed_both f (suc n) i j h below =
    let more = sum_below-suc f n in
    ⊎_elim (λ inside. let ih = summed_both f n i j h inside in omega (arith, more, ih))
    (λ past.
    let last : j ≡ n = omega (arith, below, past) in
    let same : f j ≡ f n = ap f last in
    let ih = summed f n i (omega (arith, h, last)) in
    omega (arith, more, same, ih))
    (cases_lt j n)

-- a number that passes is counted, and two that pass are counted twice
pub counted : (test : ℕ → Bool) (n i : ℕ) → i < n → test i ≡ true → 1 ≤ count_below n test
counted test n i h yes_i =
    let part = summed (λ x. cond (test x) 1 0) n i h in
    let one : cond {A = ℕ} (test i) 1 0 ≡ 1 = rw yes_i refl in
    omega (arith, part, one)

pub counted_twice : (test : ℕ → Bool) (n i j : ℕ) → i < j → j < n → test i ≡ true → test j ≡ true → 2 ≤ count_below n test
counted_twice test n i j h below yes_i yes_j =
    let part = summed_both (λ x. cond (test x) 1 0) n i j h below in
    let one : cond {A = ℕ} (test i) 1 0 ≡ 1 = rw yes_i refl in
    let two : cond {A = ℕ} (test j) 1 0 ≡ 1 = rw yes_j refl in
    omega (arith, part, one, two)

-- a sum over the elements that pass is one over all, with 0 for the others
pub sum_by-filter : {A : Type 0} (f : A → ℕ) (p : A → Bool) (xs : List A) → sum_by f (filter p xs) ≡ sum_by (λ x. cond (p x) (f x) 0) xs
sum_by-filter f p [] = refl
sum_by-filter {A = A} f p (x ∷ xs) = go (p x) refl (sum_by-filter f p xs)
  where
    g : A → ℕ
    g = λ x. cond (p x) (f x) 0

    go : (b : Bool) → p x ≡ b → sum_by f (filter p xs) ≡ sum_by g xs → sum_by f (filter p (x ∷ xs)) ≡ sum_by g (x ∷ xs)
    go true e ih =
        let here : g x ≡ f x = rw e refl in
        let kept : filter p (x ∷ xs) ≡ x ∷ filter p xs = rw e refl in
        ap (sum_by f) kept ∙ (sum_by-cons f x (filter p xs) ∙ ap (λ n. f x + n) ih ∙ sym (ap (λ n. n + sum_by g xs) here) ∙ sym (sum_by-cons g x xs))
    go false e ih =
        let here : g x ≡ 0 = rw e refl in
        let all = sum_by-cons g x xs in
        let kept : filter p (x ∷ xs) ≡ filter p xs = rw e refl in
        ap (sum_by f) kept ∙ ih ∙ omega (arith, here, all)
