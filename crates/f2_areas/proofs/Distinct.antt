-- How many different numbers a list has.
use Rattle.std.proofs.Common.{◌≡◌, ℕ, zero, suc, ◌+◌, ◌<◌, List, [], ◌∷◌, ◌++◌, Bool, true, false, cond, not, sum_by, refl, sym, ap, ◌∙◌, ⊎_elim, arith}
use Rattle.std.specs.Prelude.{◌==◌, ◌||◌}
use Rattle.std.specs.BTreeMap.{is_at}
use Rattle.std.specs.BTreeSet.{BTreeSet, contains}
use Rattle.std.specs.List.{list_any, range_with_len}
use Rattle.std.specs.Ordering.{nat_cmp}
use Rattle.std.proofs.lemmas.Bool.{cases_lt, cases_order, eq-eqb, ne_eqb, lt-ltb, le-ltb}
use Rattle.std.proofs.lemmas.List.Folds.{list_any-append}
use Rattle.std.proofs.lemmas.List.Sums.{sum_by-append}
use Rattle.f2_bytes.specs.Bytes.{numbers_below, count_below}
use Rattle.f2_survey.proofs.PartDefects.{numbers-more}

pub sum_below-more : (f : ℕ → ℕ) (n : ℕ) → sum_by f (numbers_below (n + 1)) ≡ sum_by f (numbers_below n) + f n
sum_below-more f n = ap (sum_by f) (numbers-more n) ∙ sum_by-append f (numbers_below n) (n ∷ []) ∙ ap (λ k. sum_by f (numbers_below n) + k) (let e : 0 + f n ≡ f n = omega arith in e)

sum_below-suc : (f : ℕ → ℕ) (n : ℕ) → sum_by f (numbers_below (suc n)) ≡ sum_by f (numbers_below n) + f n
sum_below-suc f n = ap (λ k. sum_by f (numbers_below k)) (let e : suc n ≡ n + 1 = omega arith in e) ∙ sum_below-more f n

-- two functions that differ at one number alone
sum_below-same : (f g : ℕ → ℕ) (n : ℕ) → ((k : ℕ) → k < n → g k ≡ f k) → sum_by g (numbers_below n) ≡ sum_by f (numbers_below n)
unfolding numbers_below
sum_below-same f g zero same = refl
sum_below-same f g (suc n) same =
    let p = sum_below-suc f n in let q = sum_below-suc g n in let last = same n (omega arith) in
    let before = sum_below-same f g n (λ k h. same k (omega (arith, h))) in
    omega (arith, p, q, last, before)

sum_below-one : (f g : ℕ → ℕ) (n x d : ℕ) → x < n → g x ≡ f x + d → ((k : ℕ) → (k ≡ x → ⊥) → g k ≡ f k) → sum_by g (numbers_below n) ≡ sum_by f (numbers_below n) + d
sum_below-one f g zero x d below here other = absurd (omega (arith, below))
sum_below-one f g (suc n) x d below here other =
    let p = sum_below-suc f n in let q = sum_below-suc g n in
    ⊎_elim (λ inside.
    let before = sum_below-one f g n x d inside here other in
    let last = other n (λ same. omega (arith, same, inside)) in
    omega (arith, p, q, last, before))
    (λ past.
    let is : x ≡ n = omega (arith, below, past) in
    let before = sum_below-same f g n (λ k h. other k (λ same. omega (arith, same, h, is))) in
    let last : g n ≡ f n + d = ap g (sym is) ∙ here ∙ ap (λ k. f k + d) is in
    omega (arith, p, q, last, before))
    (cases_lt x n)

-- the numbers so far, and one more
abbrev pub is_met : List ℕ → ℕ → Bool
is_met xs at = list_any (λ x. x == at) xs

pub is_met-more : (xs : List ℕ) (x at : ℕ) → is_met (xs ++ x ∷ []) at ≡ (is_met xs at || (x == at))
is_met-more xs x at = list_any-append (λ y. y == at) xs (x ∷ []) ∙ ap (λ b. is_met xs at || b) (or_false (x == at))
  where
    or_false : (b : Bool) → (b || false) ≡ b
    or_false true = refl
    or_false false = refl

pub count_met-none : (n : ℕ) → count_below n (is_met []) ≡ 0
unfolding numbers_below
count_met-none n = none (range_with_len 0 n)
  where
    none : (ks : List ℕ) → sum_by (λ k. cond (is_met [] k) 1 0) ks ≡ 0
    none [] = refl
    none (k ∷ ks) = none ks

-- a number that was not met is counted
pub count_met-more : (n : ℕ) (xs : List ℕ) (x : ℕ) → x < n → count_below n (is_met (xs ++ x ∷ [])) ≡ count_below n (is_met xs) + cond (not (is_met xs x)) 1 0
count_met-more n xs x below = sum_below-one (λ k. cond (is_met xs k) 1 0) (λ k. cond (is_met (xs ++ x ∷ []) k) 1 0) n x (cond (not (is_met xs x)) 1 0) below
    (ap (λ b. cond b 1 0) (is_met-more xs x x ∙ ap (λ b. is_met xs x || b) (eq-eqb x x refl)) ∙ here (is_met xs x))
    (λ k other. ap (λ b. cond b 1 0) (is_met-more xs x k ∙ ap (λ b. is_met xs k || b) (ne_eqb x k (λ same. other (sym same))) ∙ or_false (is_met xs k)))
  where
    or_false : (b : Bool) → (b || false) ≡ b
    or_false true = refl
    or_false false = refl

    here : (b : Bool) → cond {A = ℕ} (b || true) 1 0 ≡ cond b 1 0 + cond (not b) 1 0
    here true = refl
    here false = refl

-- what a set of numbers tests
pub is_at-number : (x at : ℕ) → is_at (nat_cmp x) at ≡ (x == at)
is_at-number x at =
    ⊎_elim (λ same. rw (eq-eqb x at same, le-ltb x at (omega (arith, same))) refl)
    (⊎_elim (λ low. let other : x ≡ at → ⊥ = λ same. omega (arith, same, low) in rw (ne_eqb x at other, lt-ltb x at low) refl)
    (λ high. let other : x ≡ at → ⊥ = λ same. omega (arith, same, high) in rw (ne_eqb x at other, le-ltb x at (omega (arith, high))) refl))
    (cases_order x at)

-- the set with one number more
pub set_more : (old new : BTreeSet ℕ) (xs : List ℕ) (x at : ℕ) → contains nat_cmp old at ≡ is_met xs at
    → contains nat_cmp new at ≡ cond (is_at (nat_cmp x) at) true (contains nat_cmp old at) → contains nat_cmp new at ≡ is_met (xs ++ x ∷ []) at
set_more old new xs x at before added =
    added ∙ (λ i. cond (is_at-number x at i) true (before i)) ∙ here (x == at) (is_met xs at) ∙ sym (is_met-more xs x at)
  where
    here : (a b : Bool) → cond a true b ≡ (b || a)
    here true true = refl
    here true false = refl
    here false true = refl
    here false false = refl
