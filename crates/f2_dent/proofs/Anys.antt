-- Lists of which some element passes a test.
use Rattle.std.proofs.Common.{◌≡◌, inl, inr, Bool, true, false, List, [], ◌∷◌, ◌++◌, refl, sym, ap, ◌∙◌}
use Rattle.std.specs.Prelude.{All, map, filter, ◌||◌}
use Rattle.std.specs.List.{list_any}
use Rattle.std.proofs.lemmas.Bool.{or_left, or_right, or_from, or_cases, or_parts, cond-true, cond-false, false_from_ne_true, cases_Bool, both_ways}
use Rattle.std.proofs.lemmas.List.Folds.{list_any-append}
use Rattle.std.proofs.lemmas.List.Elements.{All-nil, All-cons, All-head, All-tail}

-- an element that passes, and that it is one of them
pub any_of : {X : Type 0} (Z : Type 0) (P : X → Type 0) (p : X → Bool) (xs : List X) → All P xs → list_any p xs ≡ true
    → ((x : X) → P x → p x ≡ true → ((q : X → Bool) → q x ≡ true → list_any q xs ≡ true) → Z) → Z
any_of Z P p [] all any give = cc
any_of Z P p (x ∷ xs) all any give = elim (or_cases _ _ any) [
  | inl here ↦ give x (All-head P x xs all) here (λ q passes. or_left _ _ passes)
  | inr later ↦ any_of Z P p xs (All-tail P x xs all) later (λ y is passes among. give y is passes (λ q yes. or_right _ _ (among q yes)))
]

-- a test that follows from another
pub any_more : {X : Type 0} (P : X → Type 0) (p q : X → Bool) (xs : List X) → ((x : X) → P x → p x ≡ true → q x ≡ true) → All P xs → list_any p xs ≡ true → list_any q xs ≡ true
any_more P p q xs follows all any = any_of (list_any q xs ≡ true) P p xs all any (λ x is passes among. among q (follows x is passes))

pub not_more : {X : Type 0} (P : X → Type 0) (p q : X → Bool) (xs : List X) → ((x : X) → P x → p x ≡ true → q x ≡ true) → All P xs → list_any q xs ≡ false → list_any p xs ≡ false
not_more P p q xs follows all none = false_from_ne_true (list_any p xs) (λ any. both_ways (list_any q xs) none (any_more P p q xs follows all any))

pub same_bool : (a b : Bool) → (a ≡ true → b ≡ true) → (b ≡ true → a ≡ true) → a ≡ b
same_bool true b there back = sym (there refl)
same_bool false true there back = back refl
same_bool false false there back = refl

pub any_same : {X : Type 0} (P : X → Type 0) (p q : X → Bool) (xs : List X) → ((x : X) → P x → p x ≡ q x) → All P xs → list_any p xs ≡ list_any q xs
any_same P p q xs same all = same_bool _ _ (any_more P p q xs (λ x is yes. sym (same x is) ∙ yes) all) (any_more P q p xs (λ x is yes. same x is ∙ yes) all)

pub any-map : {X Y : Type 0} (p : X → Bool) (h : Y → X) (ys : List Y) → list_any p (map h ys) ≡ list_any (λ y. p (h y)) ys
any-map p h [] = refl
any-map p h (y ∷ ys) = ap (λ b. p (h y) || b) (any-map p h ys)

-- what fails on each fails on an element
pub each_not : {X : Type 0} (p : X → Bool) (xs : List X) → list_any p xs ≡ false → All (λ x. p x ≡ false) xs
each_not p [] none = All-nil (λ x. p x ≡ false)
each_not p (x ∷ xs) none = let parts = or_parts (p x) (list_any p xs) none in All-cons (λ y. p y ≡ false) x xs parts.0 (each_not p xs parts.1)

pub filter_none : {X : Type 0} (p : X → Bool) (xs : List X) → list_any p xs ≡ false → filter p xs ≡ []
filter_none p [] none = refl
filter_none p (x ∷ xs) none = let parts = or_parts (p x) (list_any p xs) none in cond-false (p x) (x ∷ filter p xs) (filter p xs) parts.0 ∙ filter_none p xs parts.1

-- ---- lists no two elements of which meet

abbrev pub Apart : {X : Type 0} → (X → X → Bool) → List X → Type 0
Apart meet [] = Unit {0}
Apart meet (x ∷ xs) = (list_any (meet x) xs ≡ false) × Apart meet xs

any_push : {X : Type 0} (p : X → Bool) (xs : List X) (y : X) → list_any p xs ≡ false → p y ≡ false → list_any p (xs ++ y ∷ []) ≡ false
any_push p xs y none here = list_any-append p xs (y ∷ []) ∙ or_from _ _ none (or_from _ _ here refl)

pub apart_push : {X : Type 0} (meet : X → X → Bool) (flips : (x y : X) → meet y x ≡ false → meet x y ≡ false) (xs : List X) (y : X) → Apart meet xs → list_any (meet y) xs ≡ false → Apart meet (xs ++ y ∷ [])
apart_push meet flips [] y apart none = (refl, tt)
apart_push meet flips (x ∷ xs) y apart none =
    let parts = or_parts (meet y x) (list_any (meet y) xs) none in
    (any_push (meet x) xs y apart.0 (flips x y parts.0), apart_push meet flips xs y apart.1 parts.1)

-- of elements that meet where both pass, one alone passes
pub record IsOnly {X : Type 0} (P : X → Type 0) (p : X → Bool) (xs : List X) : Type 0 where
  pub one : X
  pub is : filter p xs ≡ one ∷ []
  pub passes : p one ≡ true
  pub holds : P one
  pub among : (q : X → Bool) → q one ≡ true → list_any q xs ≡ true

pub only_one : {X : Type 0} (meet : X → X → Bool) (P : X → Type 0) (p : X → Bool) (clash : (x y : X) → P x → P y → p x ≡ true → p y ≡ true → meet x y ≡ true) (xs : List X) → All P xs → Apart meet xs → list_any p xs ≡ true → IsOnly P p xs
only_one meet P p clash [] all apart any = cc
only_one {X} meet P p clash (x ∷ xs) all apart any = elim (cases_Bool (p x)) [
  | inl here ↦
      let none : list_any p xs ≡ false = not_more P p (meet x) xs (λ y is passes. clash x y (All-head P x xs all) is here passes) (All-tail P x xs all) apart.0 in
      record { one = x; is = cond-true (p x) (x ∷ filter p xs) (filter p xs) here ∙ ap (λ ys. x ∷ ys) (filter_none p xs none); passes = here; holds = All-head P x xs all; among = λ q yes. or_left _ _ yes }
  | inr not_here ↦
      let later : list_any p xs ≡ true = sym (ap (λ b. b || list_any p xs) not_here) ∙ any in
      let rest = only_one meet P p clash xs (All-tail P x xs all) apart.1 later in
      record { one = rest.one; is = cond-false (p x) (x ∷ filter p xs) (filter p xs) not_here ∙ rest.is; passes = rest.passes; holds = rest.holds; among = λ q yes. or_right _ _ (rest.among q yes) }
]

-- where two elements meet of which one passes p and the other q, and none passes both, p and q do not both have one
pub not_both : {X : Type 0} (meet : X → X → Bool) (P : X → Type 0) (p q : X → Bool) (clash : (x y : X) → P x → P y → p x ≡ true → q y ≡ true → meet x y ≡ true) (flip : (x y : X) → meet x y ≡ true → meet y x ≡ true) (never : (x : X) → P x → p x ≡ true → q x ≡ true → ⊥)
    (xs : List X) → All P xs → Apart meet xs → list_any p xs ≡ true → list_any q xs ≡ false
not_both meet P p q clash flip never [] all apart any = refl
not_both meet P p q clash flip never (x ∷ xs) all apart any = elim (cases_Bool (p x)) [
  | inl here ↦ or_from _ _ (false_from_ne_true (q x) (never x (All-head P x xs all) here))
      (not_more P q (meet x) xs (λ y is yes. clash x y (All-head P x xs all) is here yes) (All-tail P x xs all) apart.0)
  | inr not_here ↦
      let later : list_any p xs ≡ true = sym (ap (λ b. b || list_any p xs) not_here) ∙ any in
      or_from _ _
      (false_from_ne_true (q x) (λ yes. both_ways (list_any (meet x) xs) apart.0 (any_more P p (meet x) xs (λ y is passes. flip y x (clash y x is (All-head P x xs all) passes yes)) (All-tail P x xs all) later)))
      (not_both meet P p q clash flip never xs (All-tail P x xs all) apart.1 later)
]
