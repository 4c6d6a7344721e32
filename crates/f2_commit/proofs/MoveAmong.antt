-- Members of the lists that a batch moves.
use Rattle.std.proofs.Common.{◌≡◌, ℕ, ◌<◌, List, [], ◌∷◌, Bool, true, false, ◌==◌, ◌&&◌, ◌||◌, nat_lt, cond, filter, map, length, get_or, Option, Some, None, refl, sym, ap, ◌∙◌, arith}
use Rattle.std.specs.Prelude.{flat_map, position, find, option_map}
use Rattle.std.specs.List.{list_any, position_or_len}
use Rattle.std.proofs.lemmas.Bool.{and_from, eq-eqb, ltb-false, false≢true}
use Rattle.std.proofs.lemmas.List.Folds.{Any-from_list_any, list_any-append}
use Rattle.std.proofs.lemmas.List.Sums.{fails_before_first}
use Rattle.f2_bytes.specs.declared.layout.Layout.{Layout}
use Rattle.f2_bytes.specs.Bytes.{numbers_below}
use Rattle.f2_bytes.specs.Node.{most_blocks}
use Rattle.f2_bytes.specs.Defragment.{is_among, all_places, put_at, target_block}
use Rattle.f2_bytes.proofs.Below.{some_below}

-- a test over the elements that are kept
pub any_filter : {A : Type 0} (p test : A → Bool) (xs : List A) → list_any p (filter test xs) ≡ list_any (λ x. test x && p x) xs
any_filter p test [] = refl
any_filter {A = A} p test (x ∷ xs) = go (test x) (any_filter p test xs)
  where
    go : (b : Bool) → list_any p (filter test xs) ≡ list_any (λ y. test y && p y) xs → list_any p (cond b (x ∷ filter test xs) (filter test xs)) ≡ ((b && p x) || list_any (λ y. test y && p y) xs)
    go true rest = ap (λ r. p x || r) rest
    go false rest = rest

-- a number below the limit that passes is among those that are kept
pub among_kept : (test : ℕ → Bool) (n x : ℕ) → x < n → test x ≡ true → is_among (filter test (numbers_below n)) x ≡ true
among_kept test n x low passes = any_filter (λ y. y == x) test (numbers_below n) ∙ some_below (λ y. test y && (y == x)) n x low (and_from _ _ passes (eq-eqb x x refl))

-- some element of some list passes
pub any_flat : {X A : Type 0} (p : A → Bool) (f : X → List A) (xs : List X) → list_any p (flat_map f xs) ≡ list_any (λ x. list_any p (f x)) xs
any_flat p f [] = refl
any_flat p f (x ∷ xs) = list_any-append p (f x) (flat_map f xs) ∙ ap (λ r. list_any p (f x) || r) (any_flat p f xs)

pub any_map : {X A : Type 0} (p : A → Bool) (f : X → A) (xs : List X) → list_any p (map f xs) ≡ list_any (λ x. p (f x)) xs
any_map p f [] = refl
any_map p f (x ∷ xs) = ap (λ r. p (f x) || r) (any_map p f xs)

-- a file below the limit with the number of a block is among all of them
pub some_place : (test : ℕ × ℕ → Bool) (n ino k : ℕ) → ino < n → k < most_blocks → test (ino, k) ≡ true → list_any test (all_places n) ≡ true
unfolding all_places
some_place test n ino k low within passes =
    any_flat test (λ i. map (λ j. (i, j)) (numbers_below most_blocks)) (numbers_below n)
    ∙ some_below (λ i. list_any test (map (λ j. (i, j)) (numbers_below most_blocks))) n ino low
    (any_map test (λ j. (ino, j)) (numbers_below most_blocks) ∙ some_below (λ j. test (ino, j)) most_blocks k within passes)

-- what is among a list has a place there
pub position_there : (p : ℕ → Bool) (xs : List ℕ) → list_any p xs ≡ true → position p xs ≡ None → ⊥
position_there p xs any none = go (nat_lt (position_or_len p xs) (length xs)) refl (Any-from_list_any p xs any)
  where
    go : (b : Bool) → nat_lt (position_or_len p xs) (length xs) ≡ b → (i : ℕ) × (x : ℕ) × (i < length xs) × (get_or xs i x ≡ x) × (p x ≡ true) → ⊥
    go true low t =
        let no : Some (position_or_len p xs) ≡ None = sym (ap (λ c. cond c (Some (position_or_len p xs)) None) low) ∙ none in
        cc no
    go false past t =
        let after = ltb-false (position_or_len p xs) (length xs) past in
        let inside = t.2 in
        let fails = fails_before_first p xs t.0 t.1 (omega (arith, after, inside)) in
        false≢true (sym fails ∙ ap p t.3 ∙ t.4)

-- nothing is found where nothing passes
pub find_nothing : {A : Type 0} (p : A → Bool) (xs : List A) → list_any p xs ≡ false → find p xs ≡ None
find_nothing p [] none = refl
find_nothing {A = A} p (x ∷ xs) none = go (p x) (find_nothing p xs) none
  where
    go : (b : Bool) → (list_any p xs ≡ false → find p xs ≡ None) → (b || list_any p xs) ≡ false → cond b (Some x) (find p xs) ≡ None
    go true more passes = absurd (false≢true (sym passes))
    go false more rest = more rest

-- what is found passes
pub find_passes : {A : Type 0} (p : A → Bool) (xs : List A) (x : A) → find p xs ≡ Some x → p x ≡ true
find_passes p [] x e = absurd (cc e)
find_passes {A = A} p (y ∷ ys) x e = go (p y) refl (find_passes p ys x) e
  where
    go : (b : Bool) → p y ≡ b → (find p ys ≡ Some x → p x ≡ true) → cond b (Some y) (find p ys) ≡ Some x → p x ≡ true
    go true passes more first =
        let same : y ≡ x = ap (λ o. elim o [ Some z ↦ z | None ↦ y ]) first in
        ap p (sym same) ∙ passes
    go false fails more rest = more rest

-- what is among a list that is put somewhere has its place
pub put_there_some : (l : Layout) (targets moved : List ℕ) (x : ℕ) → is_among moved x ≡ true → put_at l targets moved x ≡ None → ⊥
put_there_some l targets moved x among none = go (position (λ y. y == x) moved) refl none
  where
    go : (o : Option ℕ) → position (λ y. y == x) moved ≡ o → option_map (target_block l targets) o ≡ None → ⊥
    go None at e = position_there (λ y. y == x) moved among at
    go (Some n) at e = cc e
