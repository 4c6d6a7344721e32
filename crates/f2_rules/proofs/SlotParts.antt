-- The defects of the parts of rule 4, slot by slot over all files.
use Rattle.std.proofs.Common.{◌≡◌, ℕ, ◌+◌, ◌-◌, ◌^◌, List, [], ◌∷◌, ◌++◌, Bool, true, false, not, ◌==◌, ◌&&◌, cond, filter, Option, Some, None, refl, sym, ap, ◌∙◌}
use Rattle.std.specs.Prelude.{flat_map, filter_map, option_and_then}
use Rattle.std.specs.List.{cons_option}
use Rattle.std.proofs.lemmas.List.Elements.{filter_map-append}
use Rattle.f2_bytes.specs.Bytes.{Image, numbers_below}
use Rattle.f2_bytes.specs.Node.{most_blocks}
use Rattle.f2_bytes.specs.Superblock.{layout, is_main}
use Rattle.f2_bytes.specs.Tree.{is_inode, tree_slot}
use Rattle.f2_bytes.specs.Check.{Comparison, Defect, nids, is_address, slots_with, nodes_with, same, fails_where, where_true, defect_of, defects_at, part_defects, slot_part, address_parts, spot_of, nid_of_spot}
use Rattle.f2_files.specs.Addresses.{outside_defect}
use Rattle.f2_survey.specs.Parts.{part_in}
use Rattle.f2_files.specs.Repeats.{repeat_defect}
use Rattle.f2_survey.specs.Slots.{Slot, slot_at, file_slots, all_slots}
use Rattle.f2_files.proofs.DirectoryBlocks.{filter_map-filter_map}

-- what is listed of lists that are joined for those that pass
joined : {X A B : Type 0} (g : A → Option B) (f : X → List A) (p : X → Bool) (xs : List X)
    → filter_map g (flat_map f (filter p xs)) ≡ flat_map (λ x. cond (p x) (filter_map g (f x)) []) xs
joined g f p [] = refl
joined {X = X} {B = B} g f p (x ∷ xs) = go (p x) (joined g f p xs)
  where
    rest : List B
    rest = flat_map (λ (y : X). cond (p y) (filter_map g (f y)) []) xs

    go : (b : Bool) → filter_map g (flat_map f (filter p xs)) ≡ rest → filter_map g (flat_map f (cond b (x ∷ filter p xs) (filter p xs))) ≡ cond b (filter_map g (f x)) [] ++ rest
    go true ih = filter_map-append g (f x) (flat_map f (filter p xs)) ∙ ap (λ l. filter_map g (f x) ++ l) ih
    go false ih = ih

nothing : {X A : Type 0} (f : X → Option A) → ((x : X) → f x ≡ None) → (xs : List X) → filter_map f xs ≡ []
nothing f none [] = refl
nothing f none (x ∷ xs) = λ i. cons_option (none x i) (nothing f none xs i)

module _ (image : Image) (number : ℕ) (comparison : ℕ → Option Comparison) where
  -- the defect of a slot
  abbrev in_slot : Slot → Option Defect
  in_slot s = defect_of number s.ino s.k (where_true (is_address s.address) (comparison s.address))

  -- and that of block k of a file, which may be an inode or not
  abbrev at_block : ℕ → Bool → ℕ → Option Defect
  at_block ino inode k = defect_of number ino k (where_true (inode && is_address (tree_slot image ino k)) (comparison (tree_slot image ino k)))

  file : (ino : ℕ) → cond (is_inode image ino) (filter_map in_slot (file_slots image ino)) [] ≡ defects_at (slot_part image number comparison) ino
  unfolding file_slots defects_at
  file ino = go (is_inode image ino)
    where
      block : (k : ℕ) (hole : Bool) → (tree_slot image ino k == 0) ≡ hole
          → option_and_then in_slot (cond hole None (Some (record { ino = ino; k = k; address = tree_slot image ino k; nid = nid_of_spot image (ino, k); place = (spot_of image (ino, k)).1 })))
          ≡ at_block ino true k
      block k true e = ap (λ b. defect_of number ino k (where_true (not b && not (tree_slot image ino k == 2 ^ 32 - 1)) (comparison (tree_slot image ino k)))) (sym e)
      block k false e = refl

      go : (b : Bool) → cond b (filter_map in_slot (filter_map (slot_at image ino) (numbers_below most_blocks))) [] ≡ filter_map (at_block ino b) (numbers_below most_blocks)
      go true = filter_map-filter_map in_slot (slot_at image ino) (at_block ino true) (λ k. block k (tree_slot image ino k == 0) refl) (numbers_below most_blocks)
      go false = sym (nothing (at_block ino false) (λ k. refl) (numbers_below most_blocks))

  slot-defects : filter_map in_slot (all_slots image) ≡ part_defects (slot_part image number comparison)
  unfolding part_defects
  slot-defects = joined in_slot (file_slots image) (is_inode image) (numbers_below (nids image)) ∙ (λ i. flat_map (λ ino. file ino i) (numbers_below (nids image)))

module _ (image : Image) where
  pub outside-part : filter_map (outside_defect image) (all_slots image) ≡ part_defects (part_in image 4 1)
  unfolding address_parts
  outside-part = slot-defects image 1 (λ address. fails_where (not (is_main (layout image) address)) address (layout image).main)

  pub repeats-part : filter_map (repeat_defect image) (all_slots image) ≡ part_defects (part_in image 4 2)
  unfolding address_parts
  repeats-part = slot-defects image 2 (λ address. same (slots_with image address + nodes_with image address) 1)
