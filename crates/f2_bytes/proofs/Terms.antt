-- A sum that is not 0 has a term that is not 0.
use Rattle.std.proofs.Common.{◌≡◌, ℕ, zero, suc, ◌+◌, ◌<◌, ◌≤◌, List, [], ◌∷◌, Bool, true, false, cond, filter, length, get_or, sum_by, refl, sym, ap, ◌∙◌, ⊎_elim, ◌⊎◌, inl, inr, arith}
use Rattle.std.proofs.lemmas.List.Sums.{sum_by-cons}
use Rattle.f2_bytes.specs.Bytes.{numbers_below, count_below}
use Rattle.f2_bytes.proofs.Below.{length-numbers_below, get_or-numbers_below}

filter-all : {A : Type 0} (xs : List A) → filter (λ _. true) xs ≡ xs
filter-all [] = refl
filter-all (x ∷ xs) = ap (λ ys. x ∷ ys) (filter-all xs)

-- the term, and that its place passes the test of a filter
pub term_in : (f : ℕ → ℕ) (p : ℕ → Bool) (xs : List ℕ) → 1 ≤ sum_by f (filter p xs) → (k : ℕ) × (k < length xs) × (p (get_or xs k 0) ≡ true) × (1 ≤ f (get_or xs k 0))
term_in f p [] h = absurd (omega (arith, h))
term_in f p (x ∷ xs) h = go (p x) refl (term_in f p xs)
  where
    go : (b : Bool) → p x ≡ b
        → (1 ≤ sum_by f (filter p xs) → (k : ℕ) × (k < length xs) × (p (get_or xs k 0) ≡ true) × (1 ≤ f (get_or xs k 0)))
        → (k : ℕ) × (k < suc (length xs)) × (p (get_or (x ∷ xs) k 0) ≡ true) × (1 ≤ f (get_or (x ∷ xs) k 0))
    go false e more =
        let rest : 1 ≤ sum_by f (filter p xs) = rw e at h in
        let t = more rest in
        (suc t.0, omega (arith, t.1), t.2, t.3)
    go true e more =
        let all : 1 ≤ sum_by f (x ∷ filter p xs) = rw e at h in
        let parts : 1 ≤ f x + sum_by f (filter p xs) = rw (sum_by-cons f x (filter p xs)) at all in
        ⊎_elim (λ here. (zero, omega arith, e, here))
        (λ none.
        let rest : 1 ≤ sum_by f (filter p xs) = omega (arith, parts, none) in
        let t = more rest in
        (suc t.0, omega (arith, t.1), t.2, t.3))
        (cases (f x))
      where
        cases : (n : ℕ) → (1 ≤ n) ⊎ (n ≡ 0)
        cases zero = inr refl
        cases (suc n) = inl (omega arith)

-- over the numbers below a limit
pub term_below : (f : ℕ → ℕ) (p : ℕ → Bool) (n : ℕ) → 1 ≤ sum_by f (filter p (numbers_below n)) → (k : ℕ) × (k < n) × (p k ≡ true) × (1 ≤ f k)
term_below f p n h =
    let t = term_in f p (numbers_below n) h in
    let below : t.0 < n = rw length-numbers_below at t.1 in
    let e = get_or-numbers_below n t.0 0 below in
    (t.0, below, ap p (sym e) ∙ t.2, rw e at t.3)

pub true_from_digit : (b : Bool) → 1 ≤ cond b 1 0 → b ≡ true
true_from_digit true h = refl
true_from_digit false h = absurd (omega (arith, h))

-- a sum over all numbers below a limit
pub term_of_all : (f : ℕ → ℕ) (n : ℕ) → 1 ≤ sum_by f (numbers_below n) → (k : ℕ) × (k < n) × (1 ≤ f k)
term_of_all f n h =
    let t = term_below f (λ _. true) n (rw (filter-all (numbers_below n)) h) in
    (t.0, t.1, t.3)

-- a count that is not 0 counts some number
pub counted_some : (test : ℕ → Bool) (n : ℕ) → 1 ≤ count_below n test → (k : ℕ) × (k < n) × (test k ≡ true)
counted_some test n h =
    let t = term_of_all (λ x. cond (test x) 1 0) n h in
    (t.0, t.1, true_from_digit (test t.0) t.2)
