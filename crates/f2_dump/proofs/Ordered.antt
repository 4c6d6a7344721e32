-- A list that is sorted, and where the first of two ties stays first, is the one that is put in order.
use Rattle.std.proofs.Common.{◌≡◌, ◌∙◌, ℕ, suc, ◌+◌, ◌<◌, Bool, true, false, cond, not, List, [], ◌∷◌, map, filter, refl, sym, ap, subst, arith}
use Rattle.std.specs.Prelude.{◌&&◌}
use Rattle.std.specs.Cmp.{IsStrictWeakOrder}
use Rattle.std.specs.List.Sorted.{IsSortedBy, IsStableBy, ties}
use Rattle.f2_dump.specs.Orders.{put_in, in_order}

by_cases : {P : Type 0} (b : Bool) → (b ≡ true → P) → (b ≡ false → P) → P
by_cases true t f = t refl
by_cases false t f = f refl

module _ {X : Type 0} (lt : X → X → Bool) (order : IsStrictWeakOrder lt) where
  -- the first element of a list is not less than x, and no element of a list is less than the one before it
  abbrev Follows : X → List X → Type 0
  Follows x [] = Unit {0}
  Follows x (y ∷ ys) = lt y x ≡ false

  abbrev Rises : List X → Type 0
  Rises [] = Unit {0}
  Rises (x ∷ xs) = Follows x xs × Rises xs

  follows : (x : X) (xs : List X) → IsSortedBy lt (x ∷ xs) → Follows x xs
  follows x [] sorted = tt
  follows x (y ∷ ys) sorted = sorted 0 x (omega arith) (omega arith)

  rises : (xs : List X) → IsSortedBy lt xs → Rises xs
  rises [] sorted = tt
  rises (x ∷ xs) sorted =
      let tail : IsSortedBy lt xs = λ k d p q. rw Rattle.std.proofs.Common.add-one (rw Rattle.std.proofs.Common.add-one at (sorted (suc k) d (omega arith) (omega arith))) in
      (follows x xs sorted, rises xs tail)

  itself : (x : X) → lt x x ≡ false
  itself x = by_cases (lt x x) (order.one_way x x) (λ h. h)

  -- less than the first element is less than those after it
  still_less : (x y z : X) → lt x y ≡ true → lt z y ≡ false → lt x z ≡ true
  still_less x y z less not_less =
      by_cases (lt x z) (λ h. h) (λ h. let no = order.chain x z y h not_less in cc)

  none_ties : (x y : X) (ys : List X) → lt x y ≡ true → Rises (y ∷ ys) → filter (ties lt x) (y ∷ ys) ≡ []
  none_ties x y [] less up = rw less refl
  none_ties x y (z ∷ zs) less up = rw less (none_ties x z zs (still_less x y z less up.0) up.1)

  first_same : (y z : X) (ys zs : List X) → Rises (y ∷ ys) → Rises (z ∷ zs) → ((x : X) → filter (ties lt x) (y ∷ ys) ≡ filter (ties lt x) (z ∷ zs)) → y ≡ z
  first_same y z ys zs up up' same =
      by_cases (lt y z)
      (λ less. let here = rw (itself y) at (same y) in let none = none_ties y z zs less up' in cc)
      (λ not_less. by_cases (lt z y)
      (λ less. let here = rw (itself z) at (same z) in let none = none_ties z y ys less up in cc)
      (λ nor. let both = rw (itself y, not_less, nor) at (same y) in cc))

  rest_same : (y : X) (ys zs : List X) (x : X) → filter (ties lt x) (y ∷ ys) ≡ filter (ties lt x) (y ∷ zs) → filter (ties lt x) ys ≡ filter (ties lt x) zs
  rest_same y ys zs x same = by_tie (ties lt x y) same
    where
      by_tie : (b : Bool) → cond b (y ∷ filter (ties lt x) ys) (filter (ties lt x) ys) ≡ cond b (y ∷ filter (ties lt x) zs) (filter (ties lt x) zs) → filter (ties lt x) ys ≡ filter (ties lt x) zs
      by_tie true h = cc
      by_tie false h = h

  same_list : (ys zs : List X) → Rises ys → Rises zs → ((x : X) → filter (ties lt x) ys ≡ filter (ties lt x) zs) → ys ≡ zs
  same_list [] [] up up' same = refl
  same_list [] (z ∷ zs) up up' same = let h = rw (itself z) at (same z) in cc
  same_list (y ∷ ys) [] up up' same = let h = rw (itself y) at (same y) in cc
  same_list (y ∷ ys) (z ∷ zs) up up' same =
      let first = first_same y z ys zs up up' same in
      let rest = same_list ys zs up.1 up'.1 (λ x. rest_same y ys zs x (subst (λ (w : X). filter (ties lt x) (y ∷ ys) ≡ filter (ties lt x) (w ∷ zs)) (sym first) (same x))) in
      λ i. first i ∷ rest i

  -- ---- what putting in order does

  tie_parts : (p q : Bool) → (not p && not q) ≡ true → (p ≡ false) × (q ≡ false)
  tie_parts false false h = (refl, refl)
  tie_parts false true h = cc
  tie_parts true q h = cc

  not_both : (x a b : X) → lt b a ≡ true → ties lt x a ≡ true → ties lt x b ≡ false
  not_both x a b less tie =
      by_cases (ties lt x b)
      (λ h. let no = order.chain b x a (tie_parts (lt x b) (lt b x) h).1 (tie_parts (lt x a) (lt a x) tie).0 in cc)
      (λ h. h)

  turned : (s t : Bool) (a b : X) (l : List X) → (s ≡ true → t ≡ false)
      → cond t (b ∷ cond s (a ∷ l) l) (cond s (a ∷ l) l) ≡ cond s (a ∷ cond t (b ∷ l) l) (cond t (b ∷ l) l)
  turned true true a b l not = let h = not refl in cc
  turned true false a b l not = refl
  turned false true a b l not = refl
  turned false false a b l not = refl

  ties_step : (x a b : X) (l put : List X) (less : Bool) → lt b a ≡ less → filter (ties lt x) put ≡ filter (ties lt x) (a ∷ l)
      → filter (ties lt x) (cond less (b ∷ put) (a ∷ b ∷ l)) ≡ filter (ties lt x) (a ∷ b ∷ l)
  ties_step x a b l put false is more = refl
  ties_step x a b l put true is more =
      ap (λ (k : List X). cond (ties lt x b) (b ∷ k) k) more ∙ turned (ties lt x a) (ties lt x b) a b (filter (ties lt x) l) (not_both x a b is)

  ties_put : (x a : X) (l : List X) → filter (ties lt x) (put_in lt a l) ≡ filter (ties lt x) (a ∷ l)
  unfolding put_in
  ties_put x a [] = refl
  ties_put x a (b ∷ l) = ties_step x a b l (put_in lt a l) (lt b a) refl (ties_put x a l)

  follows_put : (x a : X) (l : List X) → lt a x ≡ false → Follows x l → Follows x (put_in lt a l)
  unfolding put_in
  follows_put x a [] below after = below
  follows_put x a (b ∷ l) below after = elim (lt b a) as (λ t. Follows x (cond t (b ∷ put_in lt a l) (a ∷ b ∷ l))) [ true ↦ after | false ↦ below ]

  rises_step : (a b : X) (l put : List X) (less : Bool) → lt b a ≡ less → Rises (b ∷ l) → Rises put → (lt a b ≡ false → Follows b put) → Rises (cond less (b ∷ put) (a ∷ b ∷ l))
  rises_step a b l put true is up more after = (after (order.one_way b a is), more)
  rises_step a b l put false is up more after = (is, up)

  rises_put : (a : X) (l : List X) → Rises l → Rises (put_in lt a l)
  unfolding put_in
  rises_put a [] up = (tt, tt)
  rises_put a (b ∷ l) up = rises_step a b l (put_in lt a l) (lt b a) refl up (rises_put a l up.1) (λ not_less. follows_put b a l not_less up.0)

  ties_in : (xs : List X) (x : X) → filter (ties lt x) (in_order lt xs) ≡ filter (ties lt x) xs
  unfolding in_order
  ties_in [] x = refl
  ties_in (a ∷ xs) x = ties_put x a (in_order lt xs) ∙ ap (λ (l : List X). cond (ties lt x a) (a ∷ l) l) (ties_in xs x)

  rises_in : (xs : List X) → Rises (in_order lt xs)
  unfolding in_order
  rises_in [] = tt
  rises_in (a ∷ xs) = rises_put a (in_order lt xs) (rises_in xs)

  pub is_in_order : (xs ys : List X) → IsSortedBy lt ys → IsStableBy lt xs ys → ys ≡ in_order lt xs
  is_in_order xs ys sorted stable = same_list ys (in_order lt xs) (rises ys sorted) (rises_in xs) (λ x. stable x ∙ sym (ties_in xs x))

-- ---- the same of what stands for the elements

module _ {X Y : Type 0} (f : X → Y) (lt : Y → Y → Bool) where
  map_step : (x y : X) (ys put : List X) (less : Bool) (put' : List Y) → map f put ≡ put' → map f (cond less (y ∷ put) (x ∷ y ∷ ys)) ≡ cond less (f y ∷ put') (f x ∷ f y ∷ map f ys)
  map_step x y ys put true put' more = ap (λ (l : List Y). f y ∷ l) more
  map_step x y ys put false put' more = refl

  map_put : (x : X) (l : List X) → map f (put_in (λ a b. lt (f a) (f b)) x l) ≡ put_in lt (f x) (map f l)
  unfolding put_in
  map_put x [] = refl
  map_put x (y ∷ ys) = map_step x y ys (put_in (λ a b. lt (f a) (f b)) x ys) (lt (f y) (f x)) (put_in lt (f x) (map f ys)) (map_put x ys)

  pub map_in_order : (l : List X) → map f (in_order (λ a b. lt (f a) (f b)) l) ≡ in_order lt (map f l)
  unfolding in_order
  map_in_order [] = refl
  map_in_order (x ∷ xs) = map_put x (in_order (λ a b. lt (f a) (f b)) xs) ∙ ap (put_in lt (f x)) (map_in_order xs)
