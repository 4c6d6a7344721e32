-- Counts of numbers below a limit: sums of counts that balance number by number, and the members of a list.
use Rattle.std.proofs.Common.{◌≡◌, ℕ, zero, suc, ◌+◌, ◌<◌, List, [], ◌∷◌, map, filter, Bool, true, false, not, ◌==◌, ◌&&◌, ◌||◌, cond, length, get_or, All, refl, sym, ap, ◌∙◌, ⊎_elim, arith}
use Rattle.std.specs.Prelude.{count_by}
use Rattle.std.specs.List.{list_any}
use Rattle.std.proofs.lemmas.Bool.{eq-eqb, eqb-true, ne_eqb, cases_eq, false_from_ne_true, false≢true}
use Rattle.std.proofs.lemmas.List.Folds.{Any-from_list_any}
use Rattle.std.proofs.lemmas.List.Sums.{sum_by-append}
use Rattle.std.proofs.lemmas.Grind.{get_or_default_zero}
use Rattle.f2_bytes.specs.Bytes.{numbers_below, count_below}
use Rattle.f2_bytes.specs.Check.{digit}
use Rattle.f2_bytes.specs.Defragment.{is_among}
use Rattle.f2_bytes.proofs.Below.{found_below, some_below}
use Rattle.f2_bytes.proofs.Counts.{sum_below-suc, counted}
use Rattle.f2_free.proofs.NumbersBelow.{numbers-none}

count_zero : (f : ℕ → Bool) → count_below 0 f ≡ 0
count_zero f = ap (count_by f) numbers-none

count_suc : (f : ℕ → Bool) (n : ℕ) → count_below (suc n) f ≡ count_below n f + digit (f n)
count_suc f n = sum_below-suc (λ x. digit (f x)) n

-- two sums of counts are the same, if they are so at each number
pub counts_balance : (f g p q : ℕ → Bool) (n : ℕ) → ((k : ℕ) → k < n → digit (f k) + digit (g k) ≡ digit (p k) + digit (q k)) → count_below n f + count_below n g ≡ count_below n p + count_below n q
counts_balance f g p q zero each =
    let a = count_zero f in let b = count_zero g in let c = count_zero p in let d = count_zero q in
    omega (arith, a, b, c, d)
counts_balance f g p q (suc n) each =
    let rest = counts_balance f g p q n (λ k low. each k (omega (arith, low))) in
    let last = each n (omega arith) in
    let a = count_suc f n in let b = count_suc g n in let c = count_suc p n in let d = count_suc q n in
    omega (arith, rest, last, a, b, c, d)

pub count_none : (f : ℕ → Bool) (n : ℕ) → ((k : ℕ) → k < n → f k ≡ false) → count_below n f ≡ 0
count_none f zero none = count_zero f
count_none f (suc n) none =
    let rest = count_none f n (λ k low. none k (omega (arith, low))) in
    let last : digit (f n) ≡ 0 = ap digit (none n (omega arith)) in
    let sum = count_suc f n in
    omega (arith, rest, last, sum)

-- the count is zero where nothing passes
pub zero_count : (f : ℕ → Bool) (n : ℕ) → (count_below n f == 0) ≡ not (list_any f (numbers_below n))
zero_count f n = go (list_any f (numbers_below n)) refl
  where
    go : (b : Bool) → list_any f (numbers_below n) ≡ b → (count_below n f == 0) ≡ not b
    go true some =
        let t = found_below f n some in
        let low = t.1 in
        let least = counted f n t.0 low t.2 in
        ne_eqb (count_below n f) 0 (λ none. omega (arith, least, none))
    go false none =
        eq-eqb (count_below n f) 0 (count_none f n (λ k low. false_from_ne_true (f k) (λ passes. false≢true (sym none ∙ some_below f n k low passes))))

-- one number
count_one : (test : ℕ → Bool) (x n : ℕ) → x < n → count_below n (λ k. (x == k) && test k) ≡ digit (test x)
count_one test x zero low = absurd (omega (arith, low))
count_one test x (suc n) low = ⊎_elim last (before (count_one test x n)) (cases_eq x n)
  where
    last : x ≡ n → count_below (suc n) (λ k. (x == k) && test k) ≡ digit (test x)
    last same =
        let sum = count_suc (λ k. (x == k) && test k) n in
        let none : count_below n (λ k. (x == k) && test k) ≡ 0 = count_none (λ k. (x == k) && test k) n (λ k less. ap (λ b. b && test k) (ne_eqb x k (λ e. omega (arith, e, less, same)))) in
        let here : digit ((x == n) && test n) ≡ digit (test x) = ap (λ b. digit (b && test n)) (eq-eqb x n same) ∙ ap (λ k. digit (test k)) (sym same) in
        omega (arith, sum, none, here)

    before : (x < n → count_below n (λ k. (x == k) && test k) ≡ digit (test x)) → (x ≡ n → ⊥) → count_below (suc n) (λ k. (x == k) && test k) ≡ digit (test x)
    before below other =
        let sum = count_suc (λ k. (x == k) && test k) n in
        let rest = below (omega (arith, low, other)) in
        let none : digit ((x == n) && test n) ≡ 0 = ap (λ b. digit (b && test n)) (ne_eqb x n other) in
        omega (arith, sum, rest, none)

-- a list without repetition
abbrev pub AreDifferent : List ℕ → Type 0
AreDifferent xs = (i j : ℕ) → i < length xs → j < length xs → get_or xs i 0 ≡ get_or xs j 0 → i ≡ j

first_alone : (x : ℕ) (xs : List ℕ) → AreDifferent (x ∷ xs) → is_among xs x ≡ false
first_alone x xs apart = false_from_ne_true (is_among xs x) (λ among.
    let t = Any-from_list_any (λ y. y == x) xs among in
    let inside = t.2 in
    let same : x ≡ get_or xs t.0 0 = sym (sym (get_or_default_zero xs t.0 t.1 t.2) ∙ t.3 ∙ eqb-true t.1 x t.4) in
    let no : 0 ≡ suc t.0 = apart 0 (suc t.0) (omega arith) (omega (arith, inside)) same in
    omega (arith, no))

rest_different : (x : ℕ) (xs : List ℕ) → AreDifferent (x ∷ xs) → AreDifferent xs
rest_different x xs apart i j low_i low_j same = let e = apart (suc i) (suc j) (omega (arith, low_i)) (omega (arith, low_j)) same in omega (arith, e)

count_first : (test : ℕ → Bool) (x : ℕ) (xs : List ℕ) → count_by test (x ∷ xs) ≡ digit (test x) + count_by test xs
count_first test x xs =
    let parts : count_by test (x ∷ xs) ≡ (0 + digit (test x)) + count_by test xs = sum_by-append (λ y. digit (test y)) (x ∷ []) xs in
    omega (arith, parts)

-- each passes
pub count_all : (xs : List ℕ) → count_by (λ k. true) xs ≡ length xs
count_all [] = refl
count_all (x ∷ xs) = let rest = count_all xs in let one = count_first (λ k. true) x xs in omega (arith, rest, one)

-- as many pairs pass as numbers of them
pub count_firsts : {T : Type 0} (p : ℕ × T → Bool) (test : ℕ → Bool) (ws : List (ℕ × T)) → All (λ (w : ℕ × T). p w ≡ test w.0) ws → length (filter p ws) ≡ count_by test (map (λ (w : ℕ × T). w.0) ws)
count_firsts p test [] same = refl
count_firsts {T} p test (w ∷ ws) same = go (p w) refl (count_firsts p test ws (λ i d low. same (suc i) d (omega (arith, low))))
  where
    go : (b : Bool) → p w ≡ b → length (filter p ws) ≡ count_by test (map (λ (w : ℕ × T). w.0) ws) → length (cond b (w ∷ filter p ws) (filter p ws)) ≡ count_by test (w.0 ∷ map (λ (w : ℕ × T). w.0) ws)
    go b is rest =
        let here : digit (test w.0) ≡ digit b = ap digit (sym (same 0 w (omega arith)) ∙ is) in
        let sum = count_first test w.0 (map (λ (w : ℕ × T). w.0) ws) in
        let size = size_of b in
        omega (arith, rest, here, sum, size)
      where
        size_of : (b : Bool) → length (cond b (w ∷ filter p ws) (filter p ws)) ≡ digit b + length (filter p ws)
        size_of true = omega arith
        size_of false = omega arith

-- the members that pass are as many as the numbers below the limit that pass and are members
pub members_counted : (test : ℕ → Bool) (n : ℕ) (xs : List ℕ) → All (λ x. x < n) xs → AreDifferent xs → count_below n (λ k. is_among xs k && test k) ≡ count_by test xs
members_counted test n [] low apart = count_none (λ k. is_among [] k && test k) n (λ k less. refl)
members_counted test n (x ∷ xs) low apart =
    let rest = members_counted test n xs (λ i d inside. low (suc i) d (omega (arith, inside))) (rest_different x xs apart) in
    let one = count_one test x n (low 0 0 (omega arith)) in
    let none : count_below n (λ k. false) ≡ 0 = count_none (λ k. false) n (λ k less. refl) in
    let both : count_below n (λ k. is_among (x ∷ xs) k && test k) + count_below n (λ k. false) ≡ count_below n (λ k. (x == k) && test k) + count_below n (λ k. is_among xs k && test k)
    = counts_balance (λ k. is_among (x ∷ xs) k && test k) (λ k. false) (λ k. (x == k) && test k) (λ k. is_among xs k && test k) n
    (λ k less. apart_or (x == k) (is_among xs k) (test k) (λ same. ap (is_among xs) (sym (eqb-true x k same)) ∙ first_alone x xs apart)) in
    let all = count_first test x xs in
    omega (arith, rest, one, none, both, all)
  where
    apart_or : (a b t : Bool) → (a ≡ true → b ≡ false) → digit ((a || b) && t) + digit false ≡ digit (a && t) + digit (b && t)
    apart_or true true t not_both = absurd (false≢true (sym (not_both refl)))
    apart_or true false true not_both = refl
    apart_or true false false not_both = refl
    apart_or false true true not_both = refl
    apart_or false true false not_both = refl
    apart_or false false t not_both = refl
