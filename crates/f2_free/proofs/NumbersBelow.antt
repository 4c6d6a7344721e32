-- Lists of the numbers below a limit, one by one.
use Rattle.std.proofs.Common.{◌≡◌, ℕ, zero, suc, ◌+◌, ◌<◌, List, [], ◌∷◌, ◌++◌, Bool, true, false, ◌||◌, ◌&&◌, not, cond, map, filter, length, get_or, refl, sym, ap, ◌∙◌, arith}
use Rattle.std.specs.List.{list_any, list_all, range_with_len}
use Rattle.std.proofs.lemmas.List.{map-append, append-nil, get_or-map, length-map}
use Rattle.std.proofs.lemmas.List.Elements.{filter-append}
use Rattle.std.proofs.lemmas.List.Folds.{list_any-append}
use Rattle.f2_bytes.specs.Bytes.{numbers_below}
use Rattle.f2_bytes.proofs.Below.{length-numbers_below, get_or-numbers_below}

range-more : (a n : ℕ) → range_with_len a (suc n) ≡ range_with_len a n ++ (a + n) ∷ []
range-more a zero = ap (λ x. x ∷ []) (omega arith)
range-more a (suc n) = ap (λ xs. a ∷ xs) (range-more (a + 1) n ∙ ap (λ x. range_with_len (a + 1) n ++ x ∷ []) (omega arith))

-- none below 0, and one more
pub numbers-none : numbers_below 0 ≡ []
unfolding numbers_below
numbers-none = refl

pub numbers-suc : (n : ℕ) → numbers_below (suc n) ≡ numbers_below n ++ n ∷ []
unfolding numbers_below
numbers-suc n = range-more 0 n ∙ ap (λ x. range_with_len 0 n ++ x ∷ []) (omega arith)

pub numbers-more : (n : ℕ) → numbers_below (n + 1) ≡ numbers_below n ++ n ∷ []
numbers-more n = ap numbers_below (omega arith) ∙ numbers-suc n

pub or_false : (b : Bool) → (b || false) ≡ b
or_false true = refl
or_false false = refl

pub any-none : (p : ℕ → Bool) → list_any p (numbers_below 0) ≡ false
any-none p = ap (list_any p) numbers-none

pub any-more : (p : ℕ → Bool) (n : ℕ) → list_any p (numbers_below (n + 1)) ≡ (list_any p (numbers_below n) || p n)
any-more p n = ap (list_any p) (numbers-more n) ∙ list_any-append p (numbers_below n) (n ∷ []) ∙ ap (λ b. list_any p (numbers_below n) || b) (or_false (p n))

pub map-none : {X : Type 0} (f : ℕ → X) → map f (numbers_below 0) ≡ []
map-none f = ap (map f) numbers-none

pub map-more : {X : Type 0} (f : ℕ → X) (n : ℕ) → map f (numbers_below (n + 1)) ≡ map f (numbers_below n) ++ f n ∷ []
map-more f n = ap (map f) (numbers-more n) ∙ map-append f (numbers_below n) (n ∷ [])

pub filter-none : (p : ℕ → Bool) → filter p (numbers_below 0) ≡ []
filter-none p = ap (filter p) numbers-none

pub filter-more : (p : ℕ → Bool) (n : ℕ) → filter p (numbers_below (n + 1)) ≡ filter p (numbers_below n) ++ cond (p n) (n ∷ []) []
filter-more p n = ap (filter p) (numbers-more n) ∙ filter-append p (numbers_below n) (n ∷ [])

pub filter-kept : (p : ℕ → Bool) (n : ℕ) (old new : List ℕ) → p n ≡ true → new ≡ old ++ n ∷ [] → old ≡ filter p (numbers_below n) → new ≡ filter p (numbers_below (n + 1))
filter-kept p n old new passes is before =
    is ∙ ap (λ l. l ++ n ∷ []) before ∙ ap (λ b. filter p (numbers_below n) ++ cond b (n ∷ []) []) (sym passes) ∙ sym (filter-more p n)

pub filter-left : (p : ℕ → Bool) (n : ℕ) (old : List ℕ) → p n ≡ false → old ≡ filter p (numbers_below n) → old ≡ filter p (numbers_below (n + 1))
filter-left p n old fails before =
    before ∙ sym (append-nil (filter p (numbers_below n))) ∙ ap (λ b. filter p (numbers_below n) ++ cond b (n ∷ []) []) (sym fails) ∙ sym (filter-more p n)

-- tests that agree below the limit
pub filter-same : (p q : ℕ → Bool) (n : ℕ) → ((k : ℕ) → k < n → p k ≡ q k) → filter p (numbers_below n) ≡ filter q (numbers_below n)
filter-same p q zero same = filter-none p ∙ sym (filter-none q)
filter-same p q (suc n) same =
    ap numbers_filtered (one n)
    ∙ filter-more p n
    ∙ (λ i. filter-same p q n (λ k low. same k (omega (arith, low))) i ++ cond (same n (omega arith) i) (n ∷ []) [])
    ∙ sym (filter-more q n)
    ∙ ap (λ k. filter q (numbers_below k)) (sym (one n))
  where
    numbers_filtered : ℕ → List ℕ
    numbers_filtered k = filter p (numbers_below k)

    one : (n : ℕ) → suc n ≡ n + 1
    one n = omega arith

pub any-same : (p q : ℕ → Bool) (n : ℕ) → ((k : ℕ) → k < n → p k ≡ q k) → list_any p (numbers_below n) ≡ list_any q (numbers_below n)
any-same p q zero same = any-none p ∙ sym (any-none q)
any-same p q (suc n) same =
    ap (λ k. list_any p (numbers_below k)) (one n)
    ∙ any-more p n
    ∙ (λ i. any-same p q n (λ k low. same k (omega (arith, low))) i || same n (omega arith) i)
    ∙ sym (any-more q n)
    ∙ ap (λ k. list_any q (numbers_below k)) (sym (one n))
  where
    one : (n : ℕ) → suc n ≡ n + 1
    one n = omega arith

-- the list of what a function gives has it at each number
pub at_number : {X : Type 0} (f : ℕ → X) (n k : ℕ) (d : X) → k < n → get_or (map f (numbers_below n)) k d ≡ f k
at_number f n k d low =
    get_or-map f (numbers_below n) k 0 d (omega (arith, length-numbers_below n, low))
    ∙ ap f (get_or-numbers_below n k 0 low)

pub many : {X : Type 0} (f : ℕ → X) (n : ℕ) → length (map f (numbers_below n)) ≡ n
many f n = length-map (numbers_below n) f ∙ length-numbers_below n

-- tests over lists
pub any-or : {X : Type 0} (p q : X → Bool) (xs : List X) → list_any (λ x. p x || q x) xs ≡ (list_any p xs || list_any q xs)
any-or p q [] = refl
any-or p q (x ∷ xs) = ap (λ b. p x || q x || b) (any-or p q xs) ∙ shuffle (p x) (q x) (list_any p xs) (list_any q xs)
  where
    shuffle : (a b c d : Bool) → (a || b || (c || d)) ≡ (a || c || (b || d))
    shuffle true b c d = refl
    shuffle false true true d = refl
    shuffle false true false d = refl
    shuffle false false c d = refl

pub any-nothing : {X : Type 0} (xs : List X) → list_any (λ (x : X). false) xs ≡ false
any-nothing [] = refl
any-nothing (x ∷ xs) = any-nothing xs

pub all-not : {X : Type 0} (p : X → Bool) (xs : List X) → list_all (λ x. not (p x)) xs ≡ not (list_any p xs)
all-not p [] = refl
all-not p (x ∷ xs) = ap (λ b. not (p x) && b) (all-not p xs) ∙ both (p x) (list_any p xs)
  where
    both : (a b : Bool) → (not a && not b) ≡ not (a || b)
    both true b = refl
    both false b = refl

-- two tests that imply each other
pub same_bool : (a b : Bool) → (a ≡ true → b ≡ true) → (b ≡ true → a ≡ true) → a ≡ b
same_bool true b to from = sym (to refl)
same_bool false true to from = from refl
same_bool false false to from = refl
