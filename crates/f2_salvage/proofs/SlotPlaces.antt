-- Every place among the files' slots is of a file, and a block whose address no other file and block has is its file's own.
use Rattle.std.proofs.Common.{◌≡◌, ℕ, zero, ◌<◌, List, [], ◌∷◌, Bool, true, false, ◌==◌, map, filter, All, Some, refl, sym, ap, subst, arith}
use Rattle.std.specs.Prelude.{find, flat_map}
use Rattle.std.specs.List.{list_any}
use Rattle.std.proofs.lemmas.Bool.{and_from, eq-eqb}
use Rattle.std.proofs.lemmas.List.Elements.{All-append, All-nil, All-cons, All-tail, All-map}
use Rattle.f2_bytes.specs.Bytes.{Image, numbers_below}
use Rattle.f2_bytes.specs.Superblock.{layout, is_main}
use Rattle.f2_bytes.specs.NodeAddressTable.{nid_limit}
use Rattle.f2_bytes.specs.Node.{most_blocks}
use Rattle.f2_bytes.specs.SalvagedFiles.{is_file, files, file_slot, is_node_address, slot_places, owner, is_owned}
use Rattle.f2_bytes.proofs.Below.{length-numbers_below, get_or-numbers_below}
use Rattle.f2_salvage.proofs.Owners.{slot_place_there}

-- the first element that passes, where each that passes is this one
pub find_only_in : {A : Type 0} (p : A → Bool) (xs : List A) (x : A) → list_any p xs ≡ true → All (λ y. p y ≡ true → y ≡ x) xs → find p xs ≡ Some x
find_only_in p [] x some only = absurd (cc some)
find_only_in p (y ∷ ys) x some only = go (p y) refl (λ rest. find_only_in p ys x rest (All-tail (λ z. p z ≡ true → z ≡ x) y ys only))
  where
    go : (b : Bool) → p y ≡ b → (list_any p ys ≡ true → find p ys ≡ Some x) → find p (y ∷ ys) ≡ Some x
    go true e more = rw e (ap Some (only zero y (omega arith) e))
    go false e more =
        let rest : list_any p ys ≡ true = rw e at some in
        rw e (more rest)

pub All-flat_map : {X A : Type 0} (P : A → Type 0) (f : X → List A) (xs : List X) → All (λ x. All P (f x)) xs → All P (flat_map f xs)
All-flat_map P f [] all = All-nil P
All-flat_map P f (x ∷ xs) all = All-append P (f x) (flat_map f xs) (all zero x (omega arith)) (All-flat_map P f xs (All-tail (λ y. All P (f y)) x xs all))

All-filter : {A : Type 0} (P : A → Type 0) (t : A → Bool) (xs : List A) → All (λ x. t x ≡ true → P x) xs → All P (filter t xs)
All-filter P t [] all = All-nil P
All-filter P t (x ∷ xs) all = go (t x) refl (All-filter P t xs (All-tail (λ y. t y ≡ true → P y) x xs all))
  where
    go : (b : Bool) → t x ≡ b → All P (filter t xs) → All P (filter t (x ∷ xs))
    go true e rest = rw e (All-cons P x (filter t xs) (all zero x (omega arith) e) rest)
    go false e rest = rw e rest

pub All-below : (P : ℕ → Type 0) (n : ℕ) → ((k : ℕ) → k < n → P k) → All P (numbers_below n)
All-below P n all = λ k d h.
    let below : k < n = rw length-numbers_below at h in
    subst P (sym (get_or-numbers_below n k d below)) (all k below)

-- what holds of each file below the limit and each number of a block holds of each place
pub All-slot_places : (image : Image) (P : ℕ × ℕ → Type 0) → ((ino k : ℕ) → is_file image ino ≡ true → ino < nid_limit (layout image) → k < most_blocks → P (ino, k)) → All P (slot_places image)
unfolding slot_places
All-slot_places image P all =
    All-flat_map P (λ ino. map (λ k. (ino, k)) (numbers_below most_blocks)) (files image)
    (All-filter (λ ino. All P (map (λ k. (ino, k)) (numbers_below most_blocks))) (is_file image) (numbers_below (nid_limit (layout image)))
    (All-below (λ ino. is_file image ino ≡ true → All P (map (λ k. (ino, k)) (numbers_below most_blocks))) (nid_limit (layout image))
    (λ ino below file. All-map P (λ k. (ino, k)) (numbers_below most_blocks) (All-below (λ k. P (ino, k)) most_blocks (λ k within. all ino k file below within)))))

-- a block is its file's own where no other file and block has its address
pub is_owned-only : (image : Image) (ino k : ℕ) → is_file image ino ≡ true → ino < nid_limit (layout image) → k < most_blocks
    → is_main (layout image) (file_slot image ino k) ≡ true
    → is_node_address image (file_slot image ino k) ≡ false
    → ((j m : ℕ) → is_file image j ≡ true → j < nid_limit (layout image) → m < most_blocks → (file_slot image j m == file_slot image ino k) ≡ true → ◌≡◌ {A = ℕ × ℕ} (j, m) (ino, k))
    → is_owned image ino k ≡ true
unfolding is_owned owner
is_owned-only image ino k file below within main apart only =
    let p = λ (place : ℕ × ℕ). file_slot image place.0 place.1 == file_slot image ino k in
    let there = slot_place_there image p ino k file below within (eq-eqb (file_slot image ino k) (file_slot image ino k) refl) in
    let first : find p (slot_places image) ≡ Some (ino, k) = find_only_in p (slot_places image) (ino, k) there (All-slot_places image (λ place. p place ≡ true → place ≡ (ino, k)) only) in
    rw (main, apart, first) (and_from (ino == ino) (k == k) (eq-eqb ino ino refl) (eq-eqb k k refl))
