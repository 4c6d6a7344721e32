-- What holds of each file and block holds of the file and block that is found, and sums and searches that agree on each of them.
use Rattle.std.proofs.Common.{◌≡◌, ℕ, zero, ◌+◌, ◌<◌, List, [], ◌∷◌, Bool, true, false, cond, map, filter, All, sum_by, Some, None, refl, sym, ap, ◌∙◌, subst, arith}
use Rattle.std.specs.Prelude.{find, flat_map}
use Rattle.std.proofs.lemmas.List.Elements.{All-append, All-nil, All-cons, All-tail, All-map}
use Rattle.std.proofs.lemmas.List.Sums.{sum_by-cons}
use Rattle.f2_bytes.specs.Bytes.{numbers_below}
use Rattle.f2_bytes.proofs.Below.{length-numbers_below, get_or-numbers_below}
use Rattle.f2_bytes.proofs.PackReads.{cond_same}
use Rattle.f2_bytes.proofs.SameParts.{sum_same}

All-flat_map : {X A : Type 0} (P : A → Type 0) (f : X → List A) (xs : List X) → All (λ x. All P (f x)) xs → All P (flat_map f xs)
All-flat_map P f [] all = All-nil P
All-flat_map P f (x ∷ xs) all = All-append P (f x) (flat_map f xs) (all zero x (omega arith)) (All-flat_map P f xs (All-tail (λ y. All P (f y)) x xs all))

All-filter : {A : Type 0} (P : A → Type 0) (t : A → Bool) (xs : List A) → All (λ x. t x ≡ true → P x) xs → All P (filter t xs)
All-filter P t [] all = All-nil P
All-filter P t (x ∷ xs) all = go (t x) refl (All-filter P t xs (All-tail (λ y. t y ≡ true → P y) x xs all))
  where
    go : (b : Bool) → t x ≡ b → All P (filter t xs) → All P (filter t (x ∷ xs))
    go true e rest = rw e (All-cons P x (filter t xs) (all zero x (omega arith) e) rest)
    go false e rest = rw e rest

pub All-below : (P : ℕ → Type 0) (n : ℕ) → ((k : ℕ) → k < n → P k) → All P (numbers_below n)
All-below P n all = λ k d h.
    let below : k < n = rw length-numbers_below at h in
    subst P (sym (get_or-numbers_below n k d below)) (all k below)

-- what holds of each number below a limit that passes, with each number below another, holds of all such pairs
pub All-places : (P : ℕ × ℕ → Type 0) (t : ℕ → Bool) (n m : ℕ) → ((a k : ℕ) → t a ≡ true → a < n → k < m → P (a, k))
    → All P (flat_map (λ a. map (λ k. (a, k)) (numbers_below m)) (filter t (numbers_below n)))
All-places P t n m all =
    All-flat_map P (λ a. map (λ k. (a, k)) (numbers_below m)) (filter t (numbers_below n))
    (All-filter (λ a. All P (map (λ k. (a, k)) (numbers_below m))) t (numbers_below n)
    (All-below (λ a. t a ≡ true → All P (map (λ k. (a, k)) (numbers_below m))) n
    (λ a below passes. All-map P (λ k. (a, k)) (numbers_below m) (All-below (λ k. P (a, k)) m (λ k within. all a k passes below within)))))

-- two tests that agree on each element find the same one
pub find_same : {A : Type 0} (p q : A → Bool) (xs : List A) → All (λ x. p x ≡ q x) xs → find p xs ≡ find q xs
find_same p q [] all = refl
find_same {A = A} p q (x ∷ xs) all =
    let rest = find_same p q xs (All-tail (λ y. p y ≡ q y) x xs all) in
    let here = all zero x (omega arith) in
    λ i. cond (here i) (Some x) (rest i)

-- what holds of all holds of the one found
pub find_all : {A : Type 0} (P : A → Type 0) (p : A → Bool) (xs : List A) (x : A) → All P xs → find p xs ≡ Some x → P x
find_all P p [] x all e = absurd (cc e)
find_all P p (y ∷ ys) x all e = go (p y) refl (find_all P p ys x (All-tail P y ys all))
  where
    go : (b : Bool) → p y ≡ b → (find p ys ≡ Some x → P x) → P x
    go true h more =
        let same_one : Some y ≡ Some x = rw h at e in
        let at : y ≡ x = ap (λ o. elim o [ Some z ↦ z | None ↦ y ]) same_one in
        subst P at (all zero y (omega arith))
    go false h more =
        let rest : find p ys ≡ Some x = rw h at e in
        more rest

-- a sum over the elements that pass is one over all, with 0 for the others
pub sum_by-filter : {A : Type 0} (f : A → ℕ) (p : A → Bool) (xs : List A) → sum_by f (filter p xs) ≡ sum_by (λ x. cond (p x) (f x) 0) xs
sum_by-filter f p [] = refl
sum_by-filter {A = A} f p (x ∷ xs) = go (p x) refl (sum_by-filter f p xs)
  where
    g : A → ℕ
    g = λ x. cond (p x) (f x) 0

    go : (b : Bool) → p x ≡ b → sum_by f (filter p xs) ≡ sum_by g xs → sum_by f (filter p (x ∷ xs)) ≡ sum_by g (x ∷ xs)
    go true e ih =
        let here : g x ≡ f x = rw e refl in
        let kept : filter p (x ∷ xs) ≡ x ∷ filter p xs = rw e refl in
        ap (sum_by f) kept ∙ (sum_by-cons f x (filter p xs) ∙ ap (λ n. f x + n) ih ∙ sym (ap (λ n. n + sum_by g xs) here) ∙ sym (sum_by-cons g x xs))
    go false e ih =
        let here : g x ≡ 0 = rw e refl in
        let all = sum_by-cons g x xs in
        let kept : filter p (x ∷ xs) ≡ filter p xs = rw e refl in
        ap (sum_by f) kept ∙ ih ∙ omega (arith, here, all)

-- two functions that agree on each number that passes have the same sum over these
pub sum_filter_same : (f g : ℕ → ℕ) (p : ℕ → Bool) (n : ℕ) → ((k : ℕ) → k < n → p k ≡ true → f k ≡ g k) → sum_by f (filter p (numbers_below n)) ≡ sum_by g (filter p (numbers_below n))
sum_filter_same f g p n same =
    sum_by-filter f p (numbers_below n)
    ∙ sum_same (λ k. cond (p k) (f k) 0) (λ k. cond (p k) (g k) 0) n (λ k low. cond_same (p k) (λ passes. same k low passes) (λ fails. refl))
    ∙ sym (sum_by-filter g p (numbers_below n))
