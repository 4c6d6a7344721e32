-- An image whose blocks moved: each new address belongs to the file and block, or to the node, that the old one belongs to.
use Rattle.std.proofs.Common.{◌≡◌, ℕ, ◌<◌, ◌⊎◌, inl, inr, Bool, true, false, ◌==◌, ◌||◌, map, filter, sum_by, Option, Some, None, refl, sym, ap, ◌∙◌, ⊎_elim, arith}
use Rattle.std.specs.Prelude.{find, flat_map, nat_lt, option_map}
use Rattle.std.specs.Option.{option_map_or}
use Rattle.std.proofs.lemmas.Bool.{and_parts, and_from, or_left, or_right, or_cases, eq-eqb, ne_eqb, cases_eq, false≢true}
use Rattle.f2_bytes.specs.Bytes.{Image, numbers_below, count_below}
use Rattle.f2_bytes.specs.Superblock.{layout, is_main}
use Rattle.f2_bytes.specs.Journal.{NatEntry}
use Rattle.f2_bytes.specs.NodeAddressTable.{nid_limit, nat}
use Rattle.f2_bytes.specs.Node.{most_blocks}
use Rattle.f2_bytes.specs.Tree.{tree_slot, is_inode}
use Rattle.f2_bytes.specs.Check.{slots_with, nodes_with, nid_with, slot_with, is_data, is_node, is_address, nids, is_checked}
use Rattle.f2_bytes.specs.Moved.{IsMoved, is_used, moved_entry}
use Rattle.f2_bytes.proofs.AllPlaces.{All-places, find_same, find_all, sum_filter_same}
use Rattle.f2_bytes.proofs.SameParts.{count_same}
use Rattle.f2_bytes.proofs.CheckedUsed.{main_range, slot_main, slot_data, data_slot, entry_node, node_entry, entry_in_main}
use Rattle.f2_bytes.proofs.MovedReads.{ReadsMoved}

-- what a slot can hold: a hole, the reserved value, or the address of a block in use
abbrev pub IsSlotValue : Image → ℕ → Type 0
IsSlotValue image a = ((a ≡ 0) ⊎ (a ≡ 4294967295)) ⊎ (is_used image a ≡ true)

-- whether a slot names a block, case by case
no_address : (a : ℕ) → is_address a ≡ false → (a ≡ 0) ⊎ (a ≡ 4294967295)
no_address a none = elim (cases_eq a 0) [
  | inl zero ↦ inl zero
  | inr other ↦ elim (cases_eq a 4294967295) [
    | inl reserved ↦ inr reserved
    | inr used ↦
        let no : true ≡ false = rw (ne_eqb a 0 other, ne_eqb a 4294967295 used) at none in
        absurd (false≢true (sym no))
  ]
]

module _ (image : Image) (h : is_checked image ≡ true) where
  used_apart : (a b : ℕ) → is_main (layout image) a ≡ true → (b ≡ 0) ⊎ (b ≡ 4294967295) → a ≡ b → ⊥
  used_apart a b main none same =
      let range = main_range image h a main in
      ⊎_elim (λ zero. let low = range.0 in omega (arith, low, zero, same)) (λ reserved. let high = range.1 in omega (arith, high, reserved, same)) none

  pub used_parts : (a : ℕ) → is_used image a ≡ true → (is_main (layout image) a ≡ true) × ((is_data image a || is_node image a) ≡ true)
  used_parts a used = and_parts _ _ used

  pub slot_value : (ino k : ℕ) → is_inode image ino ≡ true → k < most_blocks → IsSlotValue image (tree_slot image ino k)
  slot_value ino k inode within = go (is_address (tree_slot image ino k)) refl
    where
      go : (b : Bool) → is_address (tree_slot image ino k) ≡ b → IsSlotValue image (tree_slot image ino k)
      go true address = inr (and_from _ _ (slot_main image h ino k inode within address) (or_left _ _ (slot_data image h ino k inode within)))
      go false none = inl (no_address (tree_slot image ino k) none)

  pub entry_value : (nid : ℕ) (e : NatEntry) → nat image nid ≡ Some e → is_used image e.address ≡ true
  entry_value nid e is = and_from _ _ (entry_in_main image h nid e is) (or_right (is_data image e.address) _ (entry_node image h nid e is))

  -- the file that is found is an inode
  pub slot_with-inode : (a : ℕ) (place : ℕ × ℕ) → slot_with image a ≡ Some place → is_inode image place.0 ≡ true
  unfolding slot_with
  slot_with-inode a place found =
      find_all (λ p. is_inode image p.0 ≡ true) (λ p. tree_slot image p.0 p.1 == a) (flat_map (λ ino. map (λ k. (ino, k)) (numbers_below most_blocks)) (filter (is_inode image) (numbers_below (nids image)))) place
      (All-places (λ p. is_inode image p.0 ≡ true) (is_inode image) (nids image) most_blocks (λ ino k inode low within. inode)) found

module _ (to : ℕ → ℕ) (image other : Image) (h : is_checked image ≡ true) (m : IsMoved to image other) (r : ReadsMoved to image other) where
  -- the new address of a block in use is none that stands for a hole or a reserved block
  none_lands : (a b : ℕ) → is_used image a ≡ true → (b ≡ 0) ⊎ (b ≡ 4294967295) → to a ≡ to b → ⊥
  none_lands a b used none same =
      let main = m.lands a used in
      ⊎_elim
      (λ zero. used_apart image h (to a) (to b) main (inl (ap to zero ∙ m.holes)) same)
      (λ reserved. used_apart image h (to a) (to b) main (inr (ap to reserved ∙ m.reserved)) same)
      none

  none_same : (a b : ℕ) → (a ≡ 0) ⊎ (a ≡ 4294967295) → (b ≡ 0) ⊎ (b ≡ 4294967295) → to a ≡ to b → a ≡ b
  none_same a b first second same =
      ⊎_elim
      (λ zero_a. ⊎_elim (λ zero_b. zero_a ∙ sym zero_b) (λ big_b. let no : 0 ≡ 4294967295 = sym m.holes ∙ sym (ap to zero_a) ∙ same ∙ ap to big_b ∙ m.reserved in absurd (omega (arith, no))) second)
      (λ big_a. ⊎_elim (λ zero_b. let no : 4294967295 ≡ 0 = sym m.reserved ∙ sym (ap to big_a) ∙ same ∙ ap to zero_b ∙ m.holes in absurd (omega (arith, no))) (λ big_b. big_a ∙ sym big_b) second)
      first

  -- two values of slots that move to one are one
  pub values_apart : (a b : ℕ) → IsSlotValue image a → IsSlotValue image b → to a ≡ to b → a ≡ b
  values_apart a b first second same =
      ⊎_elim
      (λ none_a. ⊎_elim (λ none_b. none_same a b none_a none_b same) (λ used_b. absurd (none_lands b a used_b none_a (sym same))) second)
      (λ used_a. ⊎_elim (λ none_b. absurd (none_lands a b used_a none_b same)) (λ used_b. m.apart a b used_a used_b same) second)
      first

  pub same_test : (a b : ℕ) → IsSlotValue image a → IsSlotValue image b → (to a == to b) ≡ (a == b)
  same_test a b first second = elim (cases_eq a b) [
    | inl same ↦ eq-eqb (to a) (to b) (ap to same) ∙ sym (eq-eqb a b same)
    | inr different ↦ ne_eqb (to a) (to b) (λ same. different (values_apart a b first second same)) ∙ sym (ne_eqb a b different)
  ]

  slot_test : (a ino k : ℕ) → IsSlotValue image a → is_inode image ino ≡ true → k < most_blocks → (tree_slot other ino k == to a) ≡ (tree_slot image ino k == a)
  slot_test a ino k value inode within =
      ap (λ x. x == to a) (r.slot ino k inode) ∙ same_test (tree_slot image ino k) a (slot_value image h ino k inode within) value

  entry_test : (a nid : ℕ) → IsSlotValue image a → option_map_or (λ e. e.address == to a) (nat other nid) false ≡ option_map_or (λ e. e.address == a) (nat image nid) false
  entry_test a nid value = ap (λ o. option_map_or (λ e. e.address == to a) o false) (r.same_nat nid) ∙ go (nat image nid) refl
    where
      go : (o : Option NatEntry) → nat image nid ≡ o → option_map_or (λ e. e.address == to a) (option_map (moved_entry to) o) false ≡ option_map_or (λ e. e.address == a) o false
      go None is = refl
      go (Some e) is = same_test e.address a (inr (entry_value image h nid e is)) value

  same_limit : nids other ≡ nids image
  same_limit = ap nid_limit r.same_layout

  -- as many slots and nodes have the new address as had the old one
  pub slots_with-moved : (a : ℕ) → IsSlotValue image a → slots_with other (to a) ≡ slots_with image a
  unfolding slots_with
  slots_with-moved a value =
      let parts : slots_with other (to a) ≡ sum_by (λ ino. count_below most_blocks (λ k. tree_slot other ino k == to a)) (filter (is_inode image) (numbers_below (nids image)))
      = λ i. sum_by (λ ino. count_below most_blocks (λ k. tree_slot other ino k == to a)) (filter (λ n. r.same_inode n i) (numbers_below (same_limit i))) in
      parts
      ∙ sum_filter_same (λ ino. count_below most_blocks (λ k. tree_slot other ino k == to a)) (λ ino. count_below most_blocks (λ k. tree_slot image ino k == a)) (is_inode image) (nids image)
      (λ ino low inode. count_same (λ k. tree_slot other ino k == to a) (λ k. tree_slot image ino k == a) most_blocks (λ k within. slot_test a ino k value inode within))

  pub nodes_with-moved : (a : ℕ) → IsSlotValue image a → nodes_with other (to a) ≡ nodes_with image a
  unfolding nodes_with
  nodes_with-moved a value = λ i. count_below (same_limit i) (λ nid. entry_test a nid value i)

  -- the same node is the first there, and the same file and block
  pub nid_with-moved : (a : ℕ) → IsSlotValue image a → nid_with other (to a) ≡ nid_with image a
  unfolding nid_with
  nid_with-moved a value = λ i. find (λ nid. entry_test a nid value i) (numbers_below (same_limit i))

  pub slot_with-moved : (a : ℕ) → IsSlotValue image a → slot_with other (to a) ≡ slot_with image a
  unfolding slot_with
  slot_with-moved a value =
      let parts : slot_with other (to a) ≡ find (λ place. tree_slot other place.0 place.1 == to a) (flat_map (λ ino. map (λ k. (ino, k)) (numbers_below most_blocks)) (filter (is_inode image) (numbers_below (nids image))))
      = λ i. find (λ place. tree_slot other place.0 place.1 == to a) (flat_map (λ ino. map (λ k. (ino, k)) (numbers_below most_blocks)) (filter (λ n. r.same_inode n i) (numbers_below (same_limit i)))) in
      parts
      ∙ find_same (λ place. tree_slot other place.0 place.1 == to a) (λ place. tree_slot image place.0 place.1 == a) (flat_map (λ ino. map (λ k. (ino, k)) (numbers_below most_blocks)) (filter (is_inode image) (numbers_below (nids image))))
      (All-places (λ place. (tree_slot other place.0 place.1 == to a) ≡ (tree_slot image place.0 place.1 == a)) (is_inode image) (nids image) most_blocks
      (λ ino k inode low within. slot_test a ino k value inode within))

  -- ---- what stands at an address of main in the other image

  pub data-moved : (a : ℕ) → IsSlotValue image a → is_data other (to a) ≡ is_data image a
  data-moved a value = ap (nat_lt 0) (slots_with-moved a value)

  pub node-moved : (a : ℕ) → IsSlotValue image a → is_node other (to a) ≡ is_node image a
  node-moved a value = ap (nat_lt 0) (nodes_with-moved a value)

  -- each is one that moved
  slot_moved : (x ino k : ℕ) → is_main (layout image) x ≡ true → is_inode image ino ≡ true → k < most_blocks → tree_slot other ino k ≡ x → (a : ℕ) × (is_used image a ≡ true) × (to a ≡ x)
  slot_moved x ino k main inode within at =
      let a = tree_slot image ino k in
      let lands : to a ≡ x = sym (r.slot ino k inode) ∙ at in
      ⊎_elim
      (λ none. absurd (⊎_elim
      (λ zero. used_apart image h x (to a) main (inl (ap to zero ∙ m.holes)) (sym lands))
      (λ reserved. used_apart image h x (to a) main (inr (ap to reserved ∙ m.reserved)) (sym lands))
      none))
      (λ used. (a, used, lands))
      (slot_value image h ino k inode within)

  entry_moved : (x nid : ℕ) (e : NatEntry) → nat other nid ≡ Some e → e.address ≡ x → (a : ℕ) × (is_used image a ≡ true) × (to a ≡ x)
  entry_moved x nid e is at = go (nat image nid) refl
    where
      go : (o : Option NatEntry) → nat image nid ≡ o → (a : ℕ) × (is_used image a ≡ true) × (to a ≡ x)
      go None from =
          let no : None ≡ Some e = sym (ap (option_map (moved_entry to)) from) ∙ sym (r.same_nat nid) ∙ is in
          absurd (cc no)
      go (Some old) from =
          let same : Some (moved_entry to old) ≡ Some e = sym (ap (option_map (moved_entry to)) from) ∙ sym (r.same_nat nid) ∙ is in
          let lands : to old.address ≡ e.address = ap (λ o. option_map_or (λ f. f.address) o 0) same in
          (old.address, entry_value image h nid old from, lands ∙ at)

  pub used_from : (x : ℕ) → is_main (layout image) x ≡ true → (is_data other x || is_node other x) ≡ true → (a : ℕ) × (is_used image a ≡ true) × (to a ≡ x)
  used_from x main used =
      ⊎_elim
      (λ d. let t = data_slot other x d in slot_moved x t.0 t.1 main (sym (r.same_inode t.0) ∙ t.2) t.3 t.4)
      (λ n. let t = node_entry other x n in entry_moved x t.0 t.1 t.2 t.3)
      (or_cases (is_data other x) (is_node other x) used)
