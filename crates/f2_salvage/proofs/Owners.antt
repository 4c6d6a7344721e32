-- Finding the only element that passes, and a file and a block among all of them.
use Rattle.std.proofs.Common.{◌≡◌, ℕ, ◌<◌, List, [], ◌∷◌, Bool, true, false, ◌&&◌, ◌||◌, map, filter, Some, refl, ap, ◌∙◌}
use Rattle.std.specs.Prelude.{find, flat_map}
use Rattle.std.specs.List.{list_any}
use Rattle.std.proofs.lemmas.Bool.{and_from}
use Rattle.std.proofs.lemmas.List.Folds.{list_any-append}
use Rattle.f2_bytes.specs.Bytes.{Image, numbers_below}
use Rattle.f2_bytes.specs.Superblock.{layout}
use Rattle.f2_bytes.specs.NodeAddressTable.{nid_limit}
use Rattle.f2_bytes.specs.Node.{most_blocks}
use Rattle.f2_bytes.specs.SalvagedFiles.{is_file, files, slot_places}
use Rattle.f2_bytes.proofs.Below.{some_below}

-- the first element that passes, where all that pass are one, and it is there
pub find_only : {A : Type 0} (p : A → Bool) (xs : List A) (x : A) → list_any p xs ≡ true → ((y : A) → p y ≡ true → y ≡ x) → find p xs ≡ Some x
find_only p [] x some only = absurd (cc some)
find_only p (y ∷ ys) x some only = go (p y) refl (λ rest. find_only p ys x rest only)
  where
    go : (b : Bool) → p y ≡ b → (list_any p ys ≡ true → find p ys ≡ Some x) → find p (y ∷ ys) ≡ Some x
    go true e more = rw e (ap Some (only y e))
    go false e more =
        let rest : list_any p ys ≡ true = rw e at some in
        rw e (more rest)

pub list_any-map : {A B : Type 0} (p : B → Bool) (h : A → B) (xs : List A) → list_any p (map h xs) ≡ list_any (λ x. p (h x)) xs
list_any-map p h [] = refl
list_any-map p h (x ∷ xs) = ap (λ b. p (h x) || b) (list_any-map p h xs)

pub list_any-flat_map : {A B : Type 0} (p : B → Bool) (f : A → List B) (xs : List A) → list_any p (flat_map f xs) ≡ list_any (λ x. list_any p (f x)) xs
list_any-flat_map p f [] = refl
list_any-flat_map p f (x ∷ xs) = list_any-append p (f x) (flat_map f xs) ∙ ap (λ b. list_any p (f x) || b) (list_any-flat_map p f xs)

pub list_any-filter : {A : Type 0} (p t : A → Bool) (xs : List A) → list_any p (filter t xs) ≡ list_any (λ x. t x && p x) xs
list_any-filter p t [] = refl
list_any-filter p t (x ∷ xs) = go (t x) refl (list_any-filter p t xs)
  where
    go : (b : Bool) → t x ≡ b → list_any p (filter t xs) ≡ list_any (λ y. t y && p y) xs → list_any p (filter t (x ∷ xs)) ≡ list_any (λ y. t y && p y) (x ∷ xs)
    go true e more = rw e (ap (λ b. p x || b) more)
    go false e more = rw e more

-- a file and a block are among all of them
pub slot_place_there : (image : Image) (p : ℕ × ℕ → Bool) (ino k : ℕ) → is_file image ino ≡ true → ino < nid_limit (layout image) → k < most_blocks → p (ino, k) ≡ true → list_any p (slot_places image) ≡ true
unfolding slot_places
slot_place_there image p ino k file below within here =
    let of_file : list_any p (map (λ j. (ino, j)) (numbers_below most_blocks)) ≡ true
    = list_any-map p (λ j. (ino, j)) (numbers_below most_blocks) ∙ some_below (λ j. p (ino, j)) most_blocks k within here in
    list_any-flat_map p (λ i. map (λ j. (i, j)) (numbers_below most_blocks)) (files image)
    ∙ list_any-filter (λ i. list_any p (map (λ j. (i, j)) (numbers_below most_blocks))) (is_file image) (numbers_below (nid_limit (layout image)))
    ∙ some_below (λ i. is_file image i && list_any p (map (λ j. (i, j)) (numbers_below most_blocks))) (nid_limit (layout image)) ino below (and_from _ _ file of_file)
