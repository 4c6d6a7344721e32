-- Filters by what came before: where the elements that stay come from.
use Rattle.std.proofs.Common.{◌≡◌, suc, ◌≤◌, List, [], ◌∷◌, ◌++◌, Bool, true, false, ◌||◌, cond, length, All, Some, refl, sym, ap, subst, ◌∙◌, arith, append_assoc, append-nil}
use Rattle.std.specs.Prelude.{find}
use Rattle.std.specs.List.{list_any}
use Rattle.std.proofs.lemmas.Bool.{false≢true}
use Rattle.std.proofs.lemmas.List.Elements.{All-nil, All-cons}
use Rattle.f2_bytes.specs.Claims.{filter_after}
use Rattle.f2_salvage.proofs.ListFacts.{cons_parts, cons_same, split-nil, All-middle}

-- an element that stays passed the test, and those that stay before it come from those before it
pub split-filter_after : {A : Type 0} (test : List A → A → Bool) (before xs b r : List A) (x : A) → b ++ x ∷ r ≡ filter_after test before xs
    → (c : List A) × (s : List A) × (c ++ x ∷ s ≡ xs) × (test (before ++ c) x ≡ true) × (b ≡ filter_after test before c)
unfolding filter_after
split-filter_after test before [] b r x e = absurd (split-nil b r x e)
split-filter_after {A = A} test before (y ∷ ys) b r x e = go (test before y) refl b e (λ b e. split-filter_after test (before ++ y ∷ []) ys b r x e)
  where
    rest : List A → List A
    rest l = filter_after test (before ++ y ∷ []) l

    go : (t : Bool) → test before y ≡ t → (b : List A) → b ++ x ∷ r ≡ filter_after test before (y ∷ ys)
        → ((b : List A) → b ++ x ∷ r ≡ rest ys → (c : List A) × (s : List A) × (c ++ x ∷ s ≡ ys) × (test ((before ++ y ∷ []) ++ c) x ≡ true) × (b ≡ rest c))
        → (c : List A) × (s : List A) × (c ++ x ∷ s ≡ y ∷ ys) × (test (before ++ c) x ≡ true) × (b ≡ filter_after test before c)
    go false t b e more =
        let e' : b ++ x ∷ r ≡ rest ys = rw t at e in
        let m = more b e' in
        let stays : filter_after test before (y ∷ m.0) ≡ rest m.0 = rw t refl in
        (y ∷ m.0, m.1, ap (λ l. y ∷ l) m.2, ap (λ l. test l x) (sym (append_assoc before (y ∷ []) m.0)) ∙ m.3, m.4 ∙ sym stays)
    go true t [] e more =
        let e' : x ∷ r ≡ y ∷ rest ys = rw t at e in
        let parts = cons_parts x y r (rest ys) e' in
        ([], ys, cons_same x y ys ys parts.0 refl, ap (λ l. test l x) (append-nil before) ∙ ap (test before) parts.0 ∙ t, refl)
    go true t (z ∷ b) e more =
        let e' : z ∷ b ++ x ∷ r ≡ y ∷ rest ys = rw t at e in
        let parts = cons_parts z y (b ++ x ∷ r) (rest ys) e' in
        let m = more b parts.1 in
        let stays : filter_after test before (y ∷ m.0) ≡ y ∷ rest m.0 = rw t refl in
        (y ∷ m.0, m.1, ap (λ l. y ∷ l) m.2, ap (λ l. test l x) (sym (append_assoc before (y ∷ []) m.0)) ∙ m.3, cons_same z y b (rest m.0) parts.0 m.4 ∙ sym stays)

-- what no element passes none that stays does
pub any-filter_after : {A : Type 0} (p : A → Bool) (test : List A → A → Bool) (before xs : List A) → list_any p xs ≡ false → list_any p (filter_after test before xs) ≡ false
unfolding filter_after
any-filter_after p test before [] none = refl
any-filter_after {A = A} p test before (y ∷ ys) none = go (p y) (list_any p ys) refl refl none (any-filter_after p test (before ++ y ∷ []) ys)
  where
    rest : List A
    rest = filter_after test (before ++ y ∷ []) ys

    go : (f g : Bool) → p y ≡ f → list_any p ys ≡ g → (f || g) ≡ false → (list_any p ys ≡ false → list_any p rest ≡ false) → list_any p (cond (test before y) (y ∷ rest) rest) ≡ false
    go true g first others n more = absurd (false≢true (sym n))
    go false true first others n more = absurd (false≢true (sym n))
    go false false first others n more = by_test (test before y) (more others)
      where
        by_test : (t : Bool) → list_any p rest ≡ false → list_any p (cond t (y ∷ rest) rest) ≡ false
        by_test true m = rw (first, m) refl
        by_test false m = m

pub length-filter_after : {A : Type 0} (test : List A → A → Bool) (before xs : List A) → length (filter_after test before xs) ≤ length xs
unfolding filter_after
length-filter_after test before [] = omega arith
length-filter_after {A = A} test before (y ∷ ys) = go (test before y) (length-filter_after test (before ++ y ∷ []) ys)
  where
    rest : List A
    rest = filter_after test (before ++ y ∷ []) ys

    go : (t : Bool) → length rest ≤ length ys → length (cond t (y ∷ rest) rest) ≤ suc (length ys)
    go true more = omega (arith, more)
    go false more = omega (arith, more)

-- what holds of each element, seen with those before and after it
pub All-splits : {A : Type 0} (P : A → Type 0) (xs : List A) → ((b r : List A) (x : A) → b ++ x ∷ r ≡ xs → P x) → All P xs
All-splits P [] each = All-nil P
All-splits P (x ∷ xs) each = All-cons P x xs (each [] xs x refl) (All-splits P xs (λ b r y e. each (x ∷ b) r y (ap (λ l. x ∷ l) e)))

-- the first one that passes
pub find-split : {A : Type 0} (p : A → Bool) (b r : List A) (x : A) → list_any p b ≡ false → p x ≡ true → find p (b ++ x ∷ r) ≡ Some x
find-split p [] r x none here = rw here refl
find-split p (y ∷ b) r x none here = go (p y) refl none (λ n. find-split p b r x n here)
  where
    go : (f : Bool) → p y ≡ f → (f || list_any p b) ≡ false → (list_any p b ≡ false → find p (b ++ x ∷ r) ≡ Some x) → find p (y ∷ b ++ x ∷ r) ≡ Some x
    go true first n more = absurd (false≢true (sym n))
    go false first n more = rw first (more n)

-- what holds of all elements holds of each that stands there
pub All-there : {A : Type 0} (P : A → Type 0) (xs b r : List A) (x : A) → b ++ x ∷ r ≡ xs → All P xs → P x
All-there P xs b r x e all = All-middle P b r x (subst (All P) (sym e) all)
