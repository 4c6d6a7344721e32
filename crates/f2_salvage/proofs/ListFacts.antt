-- Facts on lists: where an element of joined lists stands, sums and tests over joined lists, and a filter that knows what came before.
use Rattle.std.proofs.Common.{◌≡◌, ℕ, zero, suc, ◌+◌, ◌<◌, List, [], ◌∷◌, ◌++◌, Bool, true, false, nat_lt, cond, filter, sum_by, All, Option, Some, None, refl, sym, ap, ◌∙◌, ⊎_elim, ◌⊎◌, inl, inr, arith, append_assoc, append-nil}
use Rattle.std.specs.Prelude.{find, flat_map, filter_map, count_by, option_map}
use Rattle.std.specs.Option.{option_or}
use Rattle.std.specs.List.{list_any}
use Rattle.std.proofs.lemmas.Bool.{false≢true, lt-ltb, false_from_ne_true}
use Rattle.std.proofs.lemmas.List.Concat.{flat_map-append}
use Rattle.std.proofs.lemmas.List.Sums.{sum_by-cons, sum_by-append}
use Rattle.std.proofs.lemmas.List.Folds.{find-append}
use Rattle.std.proofs.lemmas.List.Elements.{All-tail, All-head, filter-append}
use Rattle.f2_bytes.specs.Bytes.{numbers_below}
use Rattle.f2_bytes.specs.Claims.{filter_after}
use Rattle.f2_bytes.proofs.Below.{some_below, found_below}
use Rattle.f2_bytes.proofs.Counts.{range-more}

head_or : {A : Type 0} → A → List A → A
head_or d [] = d
head_or d (x ∷ xs) = x

tail_of : {A : Type 0} → List A → List A
tail_of [] = []
tail_of (x ∷ xs) = xs

-- a value that is there is the one
pub some_injective : {A : Type 0} (a b : A) → Some a ≡ Some b → a ≡ b
some_injective a b e = ap (λ o. elim o [ Some x ↦ x | None ↦ a ]) e

pub cons_parts : {A : Type 0} (x y : A) (xs ys : List A) → x ∷ xs ≡ y ∷ ys → (x ≡ y) × (xs ≡ ys)
unfolding head_or tail_of
cons_parts x y xs ys e = (ap (head_or x) e, ap tail_of e)

pub cons_same : {A : Type 0} (x y : A) (xs ys : List A) → x ≡ y → xs ≡ ys → x ∷ xs ≡ y ∷ ys
cons_same x y xs ys p q = λ i. p i ∷ q i

-- an element of two joined lists is in the first or in the second
pub split-append : {A : Type 0} (b r xs ys : List A) (x : A) → b ++ x ∷ r ≡ xs ++ ys
    → ((s : List A) × (b ++ x ∷ s ≡ xs)) ⊎ ((c : List A) × (b ≡ xs ++ c) × (c ++ x ∷ r ≡ ys))
split-append b r [] ys x e = inr (b, refl, e)
split-append [] r (z ∷ zs) ys x e = inl (zs, cons_same x z zs zs (cons_parts x z r (zs ++ ys) e).0 refl)
split-append (y ∷ b) r (z ∷ zs) ys x e =
    let parts = cons_parts y z (b ++ x ∷ r) (zs ++ ys) e in
    ⊎_elim (λ first. inl (first.0, cons_same y z (b ++ x ∷ first.0) zs parts.0 first.1))
    (λ second. inr (second.0, cons_same y z b (zs ++ second.0) parts.0 second.1, second.2))
    (split-append b r zs ys x parts.1)

pub split-nil : {A : Type 0} (b r : List A) (x : A) → b ++ x ∷ r ≡ [] → ⊥
split-nil [] r x e = absurd (cc e)
split-nil (y ∷ b) r x e = absurd (cc e)

pub flat_map_below-suc : {A : Type 0} (f : ℕ → List A) (n : ℕ) → flat_map f (numbers_below (suc n)) ≡ flat_map f (numbers_below n) ++ f n
unfolding numbers_below
flat_map_below-suc f n =
    ap (flat_map f) (range-more 0 n)
    ∙ flat_map-append f (numbers_below n) ((0 + n) ∷ [])
    ∙ ap (λ ys. flat_map f (numbers_below n) ++ ys) (append-nil (f (0 + n)) ∙ ap f (omega arith))

-- an element of the lists of the numbers below n stands in one of them
pub split-below : {A : Type 0} (f : ℕ → List A) (n : ℕ) (b r : List A) (x : A) → b ++ x ∷ r ≡ flat_map f (numbers_below n)
    → (k : ℕ) × (k < n) × (c : List A) × (s : List A) × (b ≡ flat_map f (numbers_below k) ++ c) × (c ++ x ∷ s ≡ f k)
unfolding numbers_below
split-below f zero b r x e = absurd (split-nil b r x e)
split-below f (suc n) b r x e =
    ⊎_elim (λ first. let t = split-below f n b first.0 x first.1 in (t.0, omega (arith, t.1), t.2, t.3, t.4, t.5))
    (λ second. (n, omega arith, second.0, r, second.1, second.2))
    (split-append b r (flat_map f (numbers_below n)) (f n) x (e ∙ flat_map_below-suc f n))

-- an element that a filter with a change gave comes from an element
pub split-filter_map : {X A : Type 0} (g : X → Option A) (ys : List X) (b r : List A) (x : A) → b ++ x ∷ r ≡ filter_map g ys
    → (c : List X) × (y : X) × (s : List X) × (c ++ y ∷ s ≡ ys) × (b ≡ filter_map g c) × (g y ≡ Some x)
split-filter_map g [] b r x e = absurd (split-nil b r x e)
split-filter_map {X = X} {A = A} g (y ∷ ys) b r x e = go (g y) refl b e (λ b r e. split-filter_map g ys b r x e)
  where
    go : (o : Option A) → g y ≡ o → (b : List A) → b ++ x ∷ r ≡ filter_map g (y ∷ ys)
        → ((b r : List A) → b ++ x ∷ r ≡ filter_map g ys → (c : List X) × (z : X) × (s : List X) × (c ++ z ∷ s ≡ ys) × (b ≡ filter_map g c) × (g z ≡ Some x))
        → (c : List X) × (z : X) × (s : List X) × (c ++ z ∷ s ≡ y ∷ ys) × (b ≡ filter_map g c) × (g z ≡ Some x)
    go None o b e more =
        let e' : b ++ x ∷ r ≡ filter_map g ys = rw o at e in
        let t = more b r e' in
        let before : filter_map g (y ∷ t.0) ≡ filter_map g t.0 = rw o refl in
        (y ∷ t.0, t.1, t.2, ap (λ l. y ∷ l) t.3, t.4 ∙ sym before, t.5)
    go (Some a) o [] e more =
        let e' : x ∷ r ≡ a ∷ filter_map g ys = rw o at e in
        ([], y, ys, refl, refl, o ∙ ap Some (sym (cons_parts x a r (filter_map g ys) e').0))
    go (Some a) o (z ∷ b) e more =
        let e' : z ∷ b ++ x ∷ r ≡ a ∷ filter_map g ys = rw o at e in
        let parts = cons_parts z a (b ++ x ∷ r) (filter_map g ys) e' in
        let t = more b r parts.1 in
        let before : filter_map g (y ∷ t.0) ≡ a ∷ filter_map g t.0 = rw o refl in
        (y ∷ t.0, t.1, t.2, ap (λ l. y ∷ l) t.3, cons_same z a b (filter_map g t.0) parts.0 t.4 ∙ sym before, t.5)

-- what holds of all elements holds of the one in the middle
pub All-middle : {A : Type 0} (P : A → Type 0) (b r : List A) (x : A) → All P (b ++ x ∷ r) → P x
All-middle P [] r x all = All-head P x r all
All-middle P (y ∷ b) r x all = All-middle P b r x (All-tail P y (b ++ x ∷ r) all)

pub flat_map-filter : {X A : Type 0} (f : X → List A) (p : X → Bool) (xs : List X) → flat_map f (filter p xs) ≡ flat_map (λ x. cond (p x) (f x) []) xs
flat_map-filter f p [] = refl
flat_map-filter {A = A} f p (x ∷ xs) = go (p x) refl (flat_map-filter f p xs)
  where
    go : (b : Bool) → p x ≡ b → flat_map f (filter p xs) ≡ flat_map (λ y. cond {A = List A} (p y) (f y) []) xs → flat_map f (filter p (x ∷ xs)) ≡ flat_map (λ y. cond {A = List A} (p y) (f y) []) (x ∷ xs)
    go true e ih = rw e (ap (λ ys. f x ++ ys) ih)
    go false e ih = rw e ih

pub filter-flat_map : {X A : Type 0} (p : A → Bool) (f : X → List A) (xs : List X) → filter p (flat_map f xs) ≡ flat_map (λ x. filter p (f x)) xs
filter-flat_map p f [] = refl
filter-flat_map p f (x ∷ xs) = filter-append p (f x) (flat_map f xs) ∙ ap (λ ys. filter p (f x) ++ ys) (filter-flat_map p f xs)

pub sum_by-flat_map : {X A : Type 0} (g : A → ℕ) (f : X → List A) (xs : List X) → sum_by g (flat_map f xs) ≡ sum_by (λ x. sum_by g (f x)) xs
sum_by-flat_map g f [] = refl
sum_by-flat_map g f (x ∷ xs) =
    sum_by-append g (f x) (flat_map f xs) ∙ ap (λ n. sum_by g (f x) + n) (sum_by-flat_map g f xs) ∙ sym (sum_by-cons (λ x. sum_by g (f x)) x xs)

-- how many pass is not 0 just where some pass
pub count_by-some : {A : Type 0} (p : A → Bool) (xs : List A) → nat_lt 0 (count_by p xs) ≡ list_any p xs
count_by-some p [] = refl
count_by-some {A = A} p (x ∷ xs) = ap (nat_lt 0) (sum_by-cons f x xs) ∙ go (p x) refl (count_by-some p xs)
  where
    f : A → ℕ
    f = λ y. cond (p y) 1 0

    go : (b : Bool) → p x ≡ b → nat_lt 0 (sum_by f xs) ≡ list_any p xs → nat_lt 0 (f x + sum_by f xs) ≡ list_any p (x ∷ xs)
    go true e ih =
        let one : f x ≡ 1 = rw e refl in
        let any : list_any p (x ∷ xs) ≡ true = rw e refl in
        lt-ltb 0 (f x + sum_by f xs) (omega (arith, one)) ∙ sym any
    go false e ih =
        let none : f x ≡ 0 = rw e refl in
        let any : list_any p (x ∷ xs) ≡ list_any p xs = rw e refl in
        ap (nat_lt 0) (let s : f x + sum_by f xs ≡ sum_by f xs = omega (arith, none) in s) ∙ ih ∙ sym any

-- a test of what came before that is one of the element alone
pub filter_after-filter : {A : Type 0} (test : List A → A → Bool) (p : A → Bool) (before xs : List A)
    → ((b r : List A) (x : A) → b ++ x ∷ r ≡ before ++ xs → test b x ≡ p x) → filter_after test before xs ≡ filter p xs
unfolding filter_after
filter_after-filter test p before [] all = refl
filter_after-filter {A = A} test p before (x ∷ xs) all =
    rw (all before xs x refl)
    (ap (λ ys. cond (p x) (x ∷ ys) ys) (filter_after-filter test p (before ++ x ∷ []) xs (λ b r y e. all b r y (e ∙ append_assoc before (x ∷ []) xs))))

pub filter-all : {A : Type 0} (xs : List A) → filter (λ _. true) xs ≡ xs
filter-all [] = refl
filter-all (x ∷ xs) = ap (λ ys. x ∷ ys) (filter-all xs)

-- a test that only one number below n can pass
pub list_any-only : (f : ℕ → Bool) (n k : ℕ) → k < n → ((j : ℕ) → (j ≡ k → ⊥) → f j ≡ false) → list_any f (numbers_below n) ≡ f k
list_any-only f n k below only = go (f k) refl
  where
    go : (b : Bool) → f k ≡ b → list_any f (numbers_below n) ≡ f k
    go true e = some_below f n k below e ∙ sym e
    go false e = false_from_ne_true (list_any f (numbers_below n)) (λ some.
        let t = found_below f n some in
        false≢true (sym (only t.0 (λ same. false≢true (sym e ∙ sym (ap f same) ∙ t.2))) ∙ t.2)) ∙ sym e

-- the owner of the first element that passes is the first one whose list has such an element
pub find-flat_map : {A : Type 0} (p : A → Bool) (owner : A → ℕ) (g : ℕ → List A) → ((k : ℕ) → All (λ c. owner c ≡ k) (g k)) → (xs : List ℕ)
    → option_map owner (find p (flat_map g xs)) ≡ find (λ k. nat_lt 0 (count_by p (g k))) xs
find-flat_map p owner g own [] = refl
find-flat_map {A = A} p owner g own (x ∷ xs) =
    ap (option_map owner) (find-append p (g x) (flat_map g xs))
    ∙ rw (count_by-some p (g x)) (go (g x) (own x) ∙ ap (λ o. cond (list_any p (g x)) (Some x) o) (find-flat_map p owner g own xs))
  where
    rest : Option A
    rest = find p (flat_map g xs)

    go : (ys : List A) → All (λ c. owner c ≡ x) ys → option_map owner (option_or (find p ys) rest) ≡ cond (list_any p ys) (Some x) (option_map owner rest)
    go [] all = refl
    go (y ∷ ys) all = here (p y) refl (go ys (All-tail (λ c. owner c ≡ x) y ys all))
      where
        here : (b : Bool) → p y ≡ b → option_map owner (option_or (find p ys) rest) ≡ cond (list_any p ys) (Some x) (option_map owner rest)
            → option_map owner (option_or (find p (y ∷ ys)) rest) ≡ cond (list_any p (y ∷ ys)) (Some x) (option_map owner rest)
        here true e ih = rw e (ap Some (All-head (λ c. owner c ≡ x) y ys all))
        here false e ih = rw e ih
