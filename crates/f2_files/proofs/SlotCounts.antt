-- Counts and first places over all slots of an image are those over its files and their blocks.
use Rattle.std.proofs.Common.{◌≡◌, ◌≢◌, ℕ, List, [], ◌∷◌, Bool, true, false, ◌==◌, cond, map, filter, length, sum_by, Option, Some, None, refl, sym, ap, ◌∙◌, arith}
use Rattle.std.specs.Prelude.{count_by, find, filter_map, flat_map, option_map}
use Rattle.std.specs.List.{cons_option}
use Rattle.std.specs.Option.{option_or}
use Rattle.std.proofs.lemmas.Bool.{ne_eqb, eqb-true}
use Rattle.std.proofs.lemmas.List.Concat.{length-flat_map}
use Rattle.std.proofs.lemmas.List.Folds.{find-append}
use Rattle.f2_bytes.specs.Bytes.{Image, numbers_below, count_below}
use Rattle.f2_bytes.specs.Tree.{is_inode, tree_slot}
use Rattle.f2_bytes.specs.Check.{nids, spot_of, nid_of_spot, slots_with, slot_with, used_slots, nid_with}
use Rattle.f2_survey.specs.Owners.{slot_owner, owner_of}
use Rattle.f2_survey.specs.OwnerTables.{first_at, slots_at, owner_by, owner_among}
use Rattle.f2_survey.specs.Slots.{Slot, slot_at, file_slots, all_slots}
use Rattle.f2_bytes.specs.Node.{most_blocks}
use Rattle.f2_items.proofs.FileSlots.{length-file_slots}
use Rattle.f2_items.proofs.GrownLists.{optional}
use Rattle.f2_files.proofs.PartitionCounts.{count-filter_map, count-flat_map}

-- how many slots all files use
pub length-all_slots : (image : Image) → length (all_slots image) ≡ sum_by (used_slots image) (filter (is_inode image) (numbers_below (nids image)))
length-all_slots image =
    length-flat_map (file_slots image) (filter (is_inode image) (numbers_below (nids image)))
    ∙ (λ i. sum_by (λ ino. length-file_slots image ino i) (filter (is_inode image) (numbers_below (nids image))))

-- ---- how many have an address

file-count : (image : Image) (a : ℕ) → a ≢ 0 → (ino : ℕ) → count_by (λ (s : Slot). s.address == a) (file_slots image ino) ≡ count_below most_blocks (λ k. tree_slot image ino k == a)
unfolding file_slots
file-count image a some ino =
    count-filter_map (λ (s : Slot). s.address == a) (slot_at image ino) (λ k. tree_slot image ino k == a) (λ k. go k (tree_slot image ino k == 0) refl) (numbers_below most_blocks)
  where
    go : (k : ℕ) (b : Bool) → (tree_slot image ino k == 0) ≡ b
        → count_by (λ (s : Slot). s.address == a) (optional (cond b None (Some (record { ino = ino; k = k; address = tree_slot image ino k; nid = nid_of_spot image (ino, k); place = (spot_of image (ino, k)).1 }))))
        ≡ cond (tree_slot image ino k == a) 1 0
    go k true e = ap (λ b. cond {A = ℕ} b 1 0) (sym (ne_eqb (tree_slot image ino k) a (λ same. some (sym same ∙ eqb-true (tree_slot image ino k) 0 e))))
    go k false e = omega arith

pub slots_at-all : (image : Image) (a : ℕ) → a ≢ 0 → slots_at (all_slots image) a ≡ slots_with image a
unfolding slots_at slots_with
slots_at-all image a some =
    count-flat_map (λ (s : Slot). s.address == a) (file_slots image) (filter (is_inode image) (numbers_below (nids image)))
    ∙ (λ i. sum_by (λ ino. file-count image a some ino i) (filter (is_inode image) (numbers_below (nids image))))

-- ---- the first one

option_map-or : {X Y : Type 0} (f : X → Y) (a b : Option X) → option_map f (option_or a b) ≡ option_or (option_map f a) (option_map f b)
option_map-or f None b = refl
option_map-or f (Some x) b = refl

-- the first that passes of lists that are made of two functions
find-flat_map : {X A B : Type 0} (p : A → Bool) (q : B → Bool) (h : B → A) (f : X → List A) (g : X → List B) → ((x : X) → find p (f x) ≡ option_map h (find q (g x)))
    → (xs : List X) → find p (flat_map f xs) ≡ option_map h (find q (flat_map g xs))
find-flat_map p q h f g same [] = refl
find-flat_map p q h f g same (x ∷ xs) =
    find-append p (f x) (flat_map f xs)
    ∙ (λ i. option_or (same x i) (find-flat_map p q h f g same xs i))
    ∙ sym (option_map-or h (find q (g x)) (find q (flat_map g xs)))
    ∙ ap (option_map h) (sym (find-append q (g x) (flat_map g xs)))

-- the slot at a place of a file
abbrev pub slot_in_place : Image → ℕ × ℕ → Slot
slot_in_place image place = record { ino = place.0; k = place.1; address = tree_slot image place.0 place.1; nid = nid_of_spot image place; place = (spot_of image place).1 }

file-first : (image : Image) (a : ℕ) → a ≢ 0 → (ino : ℕ) (ks : List ℕ)
    → find (λ (s : Slot). s.address == a) (filter_map (slot_at image ino) ks)
    ≡ option_map (slot_in_place image) (find (λ (place : ℕ × ℕ). tree_slot image place.0 place.1 == a) (map (λ k. (ino, k)) ks))
file-first image a some ino [] = refl
file-first image a some ino (k ∷ ks) = go (tree_slot image ino k == 0) refl (file-first image a some ino ks)
  where
    rest : Option (ℕ × ℕ)
    rest = find (λ (place : ℕ × ℕ). tree_slot image place.0 place.1 == a) (map (λ j. (ino, j)) ks)

    made : Slot
    made = slot_in_place image (ino, k)

    go : (b : Bool) → (tree_slot image ino k == 0) ≡ b → find (λ (s : Slot). s.address == a) (filter_map (slot_at image ino) ks) ≡ option_map (slot_in_place image) rest
        → find (λ (s : Slot). s.address == a) (cons_option (cond b None (Some made)) (filter_map (slot_at image ino) ks))
        ≡ option_map (slot_in_place image) (cond (tree_slot image ino k == a) (Some (ino, k)) rest)
    go true e ih =
        let other : (tree_slot image ino k == a) ≡ false = ne_eqb (tree_slot image ino k) a (λ same. some (sym same ∙ eqb-true (tree_slot image ino k) 0 e)) in
        ih ∙ ap (λ b. option_map (slot_in_place image) (cond b (Some (ino, k)) rest)) (sym other)
    go false e ih = ap (λ o. cond (tree_slot image ino k == a) (Some made) o) ih ∙ both (tree_slot image ino k == a)
      where
        both : (b : Bool) → cond b (Some made) (option_map (slot_in_place image) rest) ≡ option_map (slot_in_place image) (cond b (Some (ino, k)) rest)
        both true = refl
        both false = refl

pub first_at-all : (image : Image) (a : ℕ) → a ≢ 0 → first_at (all_slots image) a ≡ option_map (slot_in_place image) (slot_with image a)
unfolding first_at slot_with file_slots
first_at-all image a some =
    find-flat_map (λ (s : Slot). s.address == a) (λ (place : ℕ × ℕ). tree_slot image place.0 place.1 == a) (slot_in_place image) (file_slots image) (λ ino. map (λ k. (ino, k)) (numbers_below most_blocks))
    (λ ino. file-first image a some ino (numbers_below most_blocks)) (filter (is_inode image) (numbers_below (nids image)))

-- the owner of a block among all slots
pub owner_among-all : (image : Image) (a : ℕ) → a ≢ 0 → owner_among image (all_slots image) a ≡ owner_of image a
unfolding owner_of
owner_among-all image a some = ap (owner_by (nid_with image a)) (first_at-all image a some) ∙ go (nid_with image a) (slot_with image a)
  where
    go : (nid : Option ℕ) (place : Option (ℕ × ℕ)) → owner_by nid (option_map (slot_in_place image) place) ≡ slot_owner image nid place
    go nid None = refl
    go nid (Some place) = refl
