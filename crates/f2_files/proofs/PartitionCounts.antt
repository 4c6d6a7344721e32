-- How many elements pass a test that the first ones pass, and how many equal a number.
use Rattle.std.proofs.Common.{◌≡◌, ℕ, zero, suc, ◌+◌, ◌≤◌, List, [], ◌∷◌, ◌++◌, Bool, true, false, ◌==◌, nat_le, nat_lt, cond, filter, map, length, sum_by, Option, Some, None, refl, sym, ap, ◌∙◌, ⊎_elim, arith}
use Rattle.std.specs.Prelude.{count_by, filter_map, flat_map}
use Rattle.std.specs.List.{cons_option}
use Rattle.std.specs.List.Sorted.{IsPartitionPoint}
use Rattle.std.proofs.lemmas.Bool.{false≢true, false_from_ne_true, cases_order, eq-eqb, ne_eqb, lt-ltb, le-ltb, le-leb, lt-leb}
use Rattle.std.proofs.lemmas.List.Sums.{sum_by-cons, sum_by-append}
use Rattle.f2_items.proofs.GrownLists.{optional}

count-cons : {X : Type 0} (p : X → Bool) (x : X) (xs : List X) → count_by p (x ∷ xs) ≡ cond (p x) 1 0 + count_by p xs
count-cons p x xs = sum_by-cons (λ y. cond (p y) 1 0) x xs

pub count-append : {X : Type 0} (p : X → Bool) (xs ys : List X) → count_by p (xs ++ ys) ≡ count_by p xs + count_by p ys
count-append p xs ys = sum_by-append (λ y. cond (p y) 1 0) xs ys

-- the first i elements pass, and no other
pub partition-count : {X : Type 0} (p : X → Bool) (xs : List X) (i : ℕ) → i ≤ length xs → IsPartitionPoint (λ y. p y ≡ true) (λ y. p y ≡ false) xs i → count_by p xs ≡ i
partition-count p [] zero h point = refl
partition-count p [] (suc i) h point = absurd (omega (arith, h))
partition-count p (x ∷ xs) zero h point =
    let rest = partition-count p xs zero (omega arith) (λ k d low high. absurd (omega (arith, high)), λ k d low high. point.1 (suc k) d (omega arith) (omega (arith, high))) in
    count-cons p x xs ∙ (λ j. cond {A = ℕ} (point.1 zero x (omega arith) (omega arith) j) 1 0 + rest j)
partition-count p (x ∷ xs) (suc i) h point =
    let rest = partition-count p xs i (omega (arith, h)) (λ k d low high. point.0 (suc k) d (omega arith) (omega (arith, high)), λ k d low high. point.1 (suc k) d (omega (arith, low)) (omega (arith, high))) in
    let all : count_by p (x ∷ xs) ≡ 1 + i = count-cons p x xs ∙ (λ j. cond {A = ℕ} (point.0 zero x (omega arith) (omega arith) j) 1 0 + rest j) in
    omega (arith, all)

-- those up to a number are those below it and those that are it
pub count-upto : (n : ℕ) (xs : List ℕ) → count_by (λ x. nat_le x n) xs ≡ count_by (λ x. nat_lt x n) xs + count_by (λ x. x == n) xs
count-upto n [] = refl
count-upto n (x ∷ xs) =
    let a = count-cons (λ x. nat_le x n) x xs in
    let b = count-cons (λ x. nat_lt x n) x xs in
    let c = count-cons (λ x. x == n) x xs in
    let here : cond {A = ℕ} (nat_le x n) 1 0 ≡ cond (nat_lt x n) 1 0 + cond (x == n) 1 0 =
    ⊎_elim (λ e i. digits (le-leb x n (omega (arith, e))) (le-ltb x n (omega (arith, e))) (eq-eqb x n e) refl i)
    (λ other. ⊎_elim (λ low i. digits (le-leb x n (omega (arith, low))) (lt-ltb x n low) (ne_eqb x n (λ e. omega (arith, e, low))) refl i)
    (λ high i. digits (lt-leb x n high) (le-ltb x n (omega (arith, high))) (ne_eqb x n (λ e. omega (arith, e, high))) refl i) other) (cases_order x n) in
    let rest = count-upto n xs in
    omega (arith, a, b, c, here, rest)
  where
    digits : {t u v s p q : Bool} → t ≡ s → u ≡ p → v ≡ q → cond {A = ℕ} s 1 0 ≡ cond p 1 0 + cond q 1 0 → cond {A = ℕ} t 1 0 ≡ cond u 1 0 + cond v 1 0
    digits e f g h = (λ i. cond {A = ℕ} (e i) 1 0) ∙ h ∙ sym (λ i. cond {A = ℕ} (f i) 1 0 + cond {A = ℕ} (g i) 1 0)

-- counts over lists that are made of others
pub count-filter_map : {X Y : Type 0} (p : Y → Bool) (f : X → Option Y) (q : X → Bool) → ((x : X) → count_by p (optional (f x)) ≡ cond (q x) 1 0)
    → (xs : List X) → count_by p (filter_map f xs) ≡ count_by q xs
count-filter_map p f q same [] = refl
count-filter_map {Y = Y} p f q same (x ∷ xs) = go (f x) (filter_map f xs) ∙ (λ i. same x i + count-filter_map p f q same xs i) ∙ sym (count-cons q x xs)
  where
    go : (o : Option Y) (ys : List Y) → count_by p (cons_option o ys) ≡ count_by p (optional o) + count_by p ys
    go None ys = omega arith
    go (Some y) ys = count-append p (y ∷ []) ys

pub count-flat_map : {X Y : Type 0} (p : Y → Bool) (f : X → List Y) (xs : List X) → count_by p (flat_map f xs) ≡ sum_by (λ x. count_by p (f x)) xs
count-flat_map p f [] = refl
count-flat_map p f (x ∷ xs) = count-append p (f x) (flat_map f xs) ∙ ap (λ n. count_by p (f x) + n) (count-flat_map p f xs) ∙ sym (sum_by-cons (λ x. count_by p (f x)) x xs)

pub count-map : {X Y : Type 0} (p : Y → Bool) (f : X → Y) (xs : List X) → count_by p (map f xs) ≡ count_by (λ x. p (f x)) xs
count-map p f [] = refl
count-map p f (x ∷ xs) = count-cons p (f x) (map f xs) ∙ ap (λ n. cond {A = ℕ} (p (f x)) 1 0 + n) (count-map p f xs) ∙ sym (count-cons (λ x. p (f x)) x xs)

-- a filter that keeps what passes keeps the count
pub count-filter : {X : Type 0} (p t : X → Bool) → ((x : X) → p x ≡ true → t x ≡ true) → (xs : List X) → count_by p (filter t xs) ≡ count_by p xs
count-filter p t keeps [] = refl
count-filter {X = X} p t keeps (x ∷ xs) = go (t x) refl (count-filter p t keeps xs) ∙ sym (count-cons p x xs)
  where
    go : (b : Bool) → t x ≡ b → count_by p (filter t xs) ≡ count_by p xs → count_by p (cond b (x ∷ filter t xs) (filter t xs)) ≡ cond (p x) 1 0 + count_by p xs
    go true e rest = count-cons p x (filter t xs) ∙ ap (λ n. cond {A = ℕ} (p x) 1 0 + n) rest
    go false e rest =
        let none : p x ≡ false = false_from_ne_true (p x) (λ passes. false≢true (sym e ∙ keeps x passes)) in
        let zero_more : count_by p xs ≡ 0 + count_by p xs = omega arith in
        rest ∙ zero_more ∙ ap (λ b. cond {A = ℕ} b 1 0 + count_by p xs) (sym none)
