-- Lists of numbers by their members.
use Rattle.std.proofs.Common.{◌≡◌, ℕ, zero, suc, ◌+◌, ◌<◌, List, [], ◌∷◌, Bool, true, false, ◌||◌, ◌&&◌, ◌==◌, nat_lt, filter, map, length, get_or, All, refl, sym, ap, subst, ◌∙◌, ⊎_elim, arith}
use Rattle.std.specs.Prelude.{flat_map}
use Rattle.std.specs.List.{list_any, Contains, dedup}
use Rattle.std.specs.List.Sorted.{IsStrictlyIncreasing}
use Rattle.std.proofs.lemmas.Bool.{and_parts, and_from, eqb-true, eq-eqb, ne_eqb, lt-ltb, ltb-true, false≢true, cases_order}
use Rattle.std.proofs.lemmas.List.Folds.{list_any-append, list_any_none, Any-from_list_any, list_any_at}
use Rattle.std.proofs.lemmas.List.Kept.{AllPairs-from_increasing, IsStrictlyIncreasing-filter, Contains-dedup_nat, Contains-from_dedup}
use Rattle.std.proofs.lemmas.Map.Keys.{sorted_tail, sorted_from_strictly_increasing, IsStrictlyIncreasing-from_sorted}
use Rattle.std.specs.Ordering.{nat_cmp}
use Rattle.f2_bytes.specs.Bytes.{numbers_below}
use Rattle.f2_bytes.specs.Defragment.{is_among}
use Rattle.f2_bytes.proofs.Below.{length-numbers_below, get_or-numbers_below, some_below, found_below}

-- two tests of which each follows from the other
pub bools_same : (a b : Bool) → (a ≡ true → b ≡ true) → (b ≡ true → a ≡ true) → a ≡ b
bools_same true b to from = sym (to refl)
bools_same false true to from = from refl
bools_same false false to from = refl

-- ---- members

pub contains_from : (xs : List ℕ) (n : ℕ) → is_among xs n ≡ true → Contains xs n
contains_from xs n among =
    let found = Any-from_list_any (λ y. y == n) xs among in
    let same : found.1 ≡ n = eqb-true found.1 n found.4 in
    (found.0, found.2, subst (λ (z : ℕ). get_or xs found.0 z ≡ z) same found.3)

pub among_from : (xs : List ℕ) (n : ℕ) → Contains xs n → is_among xs n ≡ true
among_from xs n has = list_any_at (λ y. y == n) xs has.0 n has.1 (eq-eqb (get_or xs has.0 n) n has.2)

-- what passes among the members of one list passes among those of another
pub any_of_members : (q : ℕ → Bool) (xs ys : List ℕ) → ((n : ℕ) → is_among xs n ≡ true → is_among ys n ≡ true) → list_any q xs ≡ true → list_any q ys ≡ true
any_of_members q xs ys more some =
    let found = Any-from_list_any q xs some in
    let has = contains_from ys found.1 (more found.1 (list_any_at (λ y. y == found.1) xs found.0 found.1 found.2 (eq-eqb (get_or xs found.0 found.1) found.1 found.3))) in
    list_any_at q ys has.0 found.1 has.1 (ap q has.2 ∙ found.4)

pub any_member : (q : ℕ → Bool) (xs : List ℕ) → list_any q xs ≡ true → (n : ℕ) × (is_among xs n ≡ true) × (q n ≡ true)
any_member q xs some =
    let found = Any-from_list_any q xs some in
    (found.1, list_any_at (λ y. y == found.1) xs found.0 found.1 found.2 (eq-eqb (get_or xs found.0 found.1) found.1 found.3), found.4)

pub member_passes : (q : ℕ → Bool) (xs : List ℕ) (n : ℕ) → is_among xs n ≡ true → q n ≡ true → list_any q xs ≡ true
member_passes q xs n among here = let has = contains_from xs n among in list_any_at q xs has.0 n has.1 (ap q has.2 ∙ here)

-- what holds of all holds of a member
pub All-among : (P : ℕ → Type 0) (xs : List ℕ) (n : ℕ) → All P xs → is_among xs n ≡ true → P n
All-among P xs n all among = let has = contains_from xs n among in subst P has.2 (all has.0 n has.1)

pub any-flat_map : {X A : Type 0} (p : A → Bool) (f : X → List A) (xs : List X) → list_any p (flat_map f xs) ≡ list_any (λ x. list_any p (f x)) xs
any-flat_map p f [] = refl
any-flat_map p f (x ∷ xs) = list_any-append p (f x) (flat_map f xs) ∙ ap (λ b. list_any p (f x) || b) (any-flat_map p f xs)

pub any-map : {X A : Type 0} (p : A → Bool) (f : X → A) (xs : List X) → list_any p (map f xs) ≡ list_any (λ x. p (f x)) xs
any-map p f [] = refl
any-map p f (x ∷ xs) = ap (λ b. p (f x) || b) (any-map p f xs)

pub any-filter : {A : Type 0} (p t : A → Bool) (xs : List A) → list_any p (filter t xs) ≡ list_any (λ x. t x && p x) xs
any-filter p t [] = refl
any-filter p t (x ∷ xs) = go (t x) refl (any-filter p t xs)
  where
    go : (b : Bool) → t x ≡ b → list_any p (filter t xs) ≡ list_any (λ y. t y && p y) xs → list_any p (filter t (x ∷ xs)) ≡ list_any (λ y. t y && p y) (x ∷ xs)
    go true e more = rw e (ap (λ b. p x || b) more)
    go false e more = rw e more

-- what a function makes of two lists with the same members has the same members
pub among-flat_map : (f : ℕ → List ℕ) (xs ys : List ℕ) → ((n : ℕ) → is_among xs n ≡ is_among ys n) → (n : ℕ) → is_among (flat_map f xs) n ≡ is_among (flat_map f ys) n
among-flat_map f xs ys same n =
    let q = λ (x : ℕ). list_any (λ y. y == n) (f x) in
    any-flat_map (λ y. y == n) f xs
    ∙ bools_same (list_any q xs) (list_any q ys) (any_of_members q xs ys (λ m h. sym (same m) ∙ h)) (any_of_members q ys xs (λ m h. same m ∙ h))
    ∙ sym (any-flat_map (λ y. y == n) f ys)

pub among-dedup : (xs : List ℕ) (n : ℕ) → is_among (dedup (λ x y. x == y) xs) n ≡ is_among xs n
among-dedup xs n =
    bools_same (is_among (dedup (λ x y. x == y) xs) n) (is_among xs n)
    (λ h. among_from xs n (Contains-from_dedup (λ x y. x == y) xs n (contains_from (dedup (λ x y. x == y) xs) n h)))
    (λ h. among_from (dedup (λ x y. x == y) xs) n (Contains-dedup_nat xs n (contains_from xs n h)))

-- ---- lists that rise

above_first : (x : ℕ) (xs : List ℕ) → IsStrictlyIncreasing (x ∷ xs) → All (λ y. x < y) xs
above_first x xs rises = λ k d low. AllPairs-from_increasing (x ∷ xs) rises 0 (suc k) d (omega arith) (omega (arith, low))

rest_rises : (x : ℕ) (xs : List ℕ) → IsStrictlyIncreasing (x ∷ xs) → IsStrictlyIncreasing xs
rest_rises x xs rises = IsStrictlyIncreasing-from_sorted xs (sorted_tail nat_cmp x xs (sorted_from_strictly_increasing (x ∷ xs) rises))

absent : (n : ℕ) (xs : List ℕ) → All (λ y. n < y) xs → is_among xs n ≡ false
absent n xs above = list_any_none (λ y. y == n) xs (λ k d low. ne_eqb (get_or xs k d) n (λ e. let high = above k d low in omega (arith, e, high)))

first_among : (x : ℕ) (xs : List ℕ) → is_among (x ∷ xs) x ≡ true
first_among x xs = rw (eq-eqb x x refl) refl

no_lower : (x y : ℕ) (xs ys : List ℕ) → IsStrictlyIncreasing (y ∷ ys) → ((n : ℕ) → is_among (x ∷ xs) n ≡ is_among (y ∷ ys) n) → x < y → ⊥
no_lower x y xs ys rises same low =
    let all : All (λ z. x < z) (y ∷ ys) = λ k d inside. above k d inside in
    false≢true (sym (absent x (y ∷ ys) all) ∙ sym (same x) ∙ first_among x xs)
  where
    above : (k d : ℕ) → k < suc (length ys) → x < get_or (y ∷ ys) k d
    above zero d inside = low
    above (suc k) d inside = let more = above_first y ys rises k d (omega (arith, inside)) in omega (arith, low, more)

rest_same : (x : ℕ) (xs ys : List ℕ) → IsStrictlyIncreasing (x ∷ xs) → IsStrictlyIncreasing (x ∷ ys) → ((n : ℕ) → is_among (x ∷ xs) n ≡ is_among (x ∷ ys) n) → (n : ℕ) → is_among xs n ≡ is_among ys n
rest_same x xs ys rises rises_too same n = go (x == n) refl
  where
    go : (b : Bool) → (x == n) ≡ b → is_among xs n ≡ is_among ys n
    go true e =
        let is : x ≡ n = eqb-true x n e in
        ap (is_among xs) (sym is) ∙ absent x xs (above_first x xs rises) ∙ sym (absent x ys (above_first x ys rises_too)) ∙ ap (is_among ys) is
    go false e = ap (λ b. b || is_among xs n) (sym e) ∙ same n ∙ ap (λ b. b || is_among ys n) e

pub rising_same : (xs ys : List ℕ) → IsStrictlyIncreasing xs → IsStrictlyIncreasing ys → ((n : ℕ) → is_among xs n ≡ is_among ys n) → xs ≡ ys
rising_same [] [] rises rises_too same = refl
rising_same [] (y ∷ ys) rises rises_too same = absurd (false≢true (same y ∙ first_among y ys))
rising_same (x ∷ xs) [] rises rises_too same = absurd (false≢true (sym (same x) ∙ first_among x xs))
rising_same (x ∷ xs) (y ∷ ys) rises rises_too same =
    ⊎_elim (λ is. matched is (rising_same xs ys))
    (λ apart. absurd (⊎_elim (no_lower x y xs ys rises_too same) (no_lower y x ys xs rises (λ n. sym (same n))) apart))
    (cases_order x y)
  where
    matched : x ≡ y → (IsStrictlyIncreasing xs → IsStrictlyIncreasing ys → ((n : ℕ) → is_among xs n ≡ is_among ys n) → xs ≡ ys) → x ∷ xs ≡ y ∷ ys
    matched is more =
        let too : IsStrictlyIncreasing (x ∷ ys) = subst (λ (z : ℕ). IsStrictlyIncreasing (z ∷ ys)) (sym is) rises_too in
        let all : (n : ℕ) → is_among (x ∷ xs) n ≡ is_among (x ∷ ys) n = subst (λ (z : ℕ). (n : ℕ) → is_among (x ∷ xs) n ≡ is_among (z ∷ ys) n) (sym is) same in
        let rest = more (rest_rises x xs rises) (rest_rises x ys too) (rest_same x xs ys rises too all) in
        λ i. is i ∷ rest i

numbers_rise : (n : ℕ) → IsStrictlyIncreasing (numbers_below n)
numbers_rise n k low =
    let high : k + 1 < n = rw length-numbers_below at low in
    let a = get_or-numbers_below n k 0 (omega (arith, high)) in
    let b = get_or-numbers_below n (k + 1) 0 high in
    omega (arith, a, b)

among-numbers : (p : ℕ → Bool) (n x : ℕ) → is_among (filter p (numbers_below n)) x ≡ (nat_lt x n && p x)
among-numbers p n x =
    let both = λ (y : ℕ). p y && (y == x) in
    any-filter (λ y. y == x) p (numbers_below n)
    ∙ bools_same (list_any both (numbers_below n)) (nat_lt x n && p x)
    (λ some.
    let found = found_below both n some in
    let parts = and_parts (p found.0) (found.0 == x) found.2 in
    let is : found.0 ≡ x = eqb-true found.0 x parts.1 in
    and_from (nat_lt x n) (p x) (lt-ltb x n (omega (arith, is, found.1))) (ap p (sym is) ∙ parts.0))
    (λ here.
    let parts = and_parts (nat_lt x n) (p x) here in
    some_below both n x (ltb-true x n parts.0) (and_from (p x) (x == x) parts.1 (eq-eqb x x refl)))

-- a list that rises and has the members of a filter of the numbers below a limit is that filter
pub rising_filter : (p : ℕ → Bool) (n : ℕ) (xs : List ℕ) → IsStrictlyIncreasing xs → ((x : ℕ) → is_among xs x ≡ (nat_lt x n && p x)) → xs ≡ filter p (numbers_below n)
rising_filter p n xs rises members =
    rising_same xs (filter p (numbers_below n)) rises (IsStrictlyIncreasing-filter p (numbers_below n) (numbers_rise n)) (λ x. members x ∙ sym (among-numbers p n x))
