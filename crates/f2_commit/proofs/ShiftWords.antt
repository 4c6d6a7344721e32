-- A node of a checked image with the new addresses of the blocks that it holds is the node after the move.
use Rattle.std.proofs.Common.{◌≡◌, ℕ, ◌+◌, ◌-◌, ◌<◌, inl, inr, List, Bool, true, false, not, ◌==◌, ◌&&◌, nat_lt, nat_le, cond, length, get_or, All, Option, Some, None, refl, sym, ap, ◌∙◌, subst, ⊎_elim, arith}
use Rattle.std.specs.Prelude.{unwrap_or}
use Rattle.std.specs.Option.{option_map_or}
use Rattle.std.specs.List.{list_any}
use Rattle.std.proofs.lemmas.Bool.{and_parts, and_from, or_left, eq-eqb, eqb-true, eqb-false, ne_eqb, leb-true, ltb-true, le-leb, lt-ltb, not-true, false≢true}
use Rattle.std.proofs.lemmas.List.{get_or_default}
use Rattle.std.proofs.lemmas.List.Folds.{Any-from_list_any, list_any_at}
use Rattle.f2_bytes.specs.Bytes.{Block, Image, IsBlock, block_at, word, numbers_below}
use Rattle.f2_bytes.specs.Superblock.{layout, is_main}
use Rattle.f2_bytes.specs.Journal.{NatEntry}
use Rattle.f2_bytes.specs.NodeAddressTable.{nat}
use Rattle.f2_bytes.specs.Node.{node_offset, has_slots, is_direct, is_regular, address_count, ext_addr, ext_len}
use Rattle.f2_bytes.specs.Tree.{read_node, tree_slot, is_inode}
use Rattle.f2_bytes.specs.Check.{is_checked, nid_with}
use Rattle.f2_bytes.specs.Moved.{IsMovedNode, moved_word, covers_moved, is_used}
use Rattle.f2_bytes.specs.Defragment.{is_covered, regular_extent, put_at, target_block}
use Rattle.f2_bytes.proofs.Below.{some_below, found_below}
use Rattle.f2_bytes.proofs.CheckedNodes.{read_node-checked}
use Rattle.f2_bytes.proofs.SlotSupport.{body_checked}
use Rattle.f2_commit.specs.Moves.{AreTargets, moved_data, moved_nodes, node_targets, new_address}
use Rattle.f2_commit.specs.Shifting.{placed_data, shifted_word, IsShifted}
use Rattle.f2_commit.proofs.MoveAddresses.{data_used, data_no_node}
use Rattle.f2_commit.proofs.MoveAmong.{put_there_some}
use Rattle.f2_commit.proofs.MoveBlocks.{to_data}
use Rattle.f2_commit.proofs.MoveKept.{node_found, slot_is_data, extent_goes}
use Rattle.f2_commit.proofs.MoveLands.{takes_low, target_unused}
use Rattle.f2_commit.proofs.MoveTargets.{put_number}
use Rattle.f2_commit.proofs.MoveWords.{IsAddressWord, IsHeld, zero_inode, held}

-- two tests of which each follows from the other
bools_same : (a b : Bool) → (a ≡ true → b ≡ true) → (b ≡ true → a ≡ true) → a ≡ b
bools_same true b to from = sym (to refl)
bools_same false true to from = from refl
bools_same false false to from = refl

-- a word that is chosen in the same way from parts that agree where they count
same_choice : (z s p d c e : Bool) (x y w : ℕ) → (z ≡ true → s ≡ true → x ≡ y) → (z ≡ false → d ≡ true → x ≡ y) → (z ≡ true → c ≡ e)
    → cond z (cond s x (cond (p && c) 0 w)) (cond d x w) ≡ cond z (cond s y (cond (p && e) 0 w)) (cond d y w)
same_choice true true p d c e x y w first second third = first refl refl
same_choice true false p d c e x y w first second third = ap (λ b. cond (p && b) 0 w) (third refl)
same_choice false s p true c e x y w first second third = second refl refl
same_choice false s p false c e x y w first second third = refl

module _ (image : Image) (h : is_checked image ≡ true) (addresses targets : List ℕ) (mains : All (λ a. is_main (layout image) a ≡ true) addresses) (free : AreTargets image addresses targets) where
  abbrev to : ℕ → ℕ
  to = new_address image addresses targets

  abbrev moved : List ℕ
  moved = moved_data image addresses

  -- where no node stands an address goes as the data do
  pub placed_alone : (a : ℕ) → nid_with image a ≡ None → to a ≡ placed_data (layout image) targets moved a
  unfolding new_address placed_data
  placed_alone a none = ap (λ o. unwrap_or (put_at (layout image) targets (moved_data image addresses) a) (option_map_or (λ nid. unwrap_or (put_at (layout image) (node_targets image addresses targets) (moved_nodes image addresses) nid) a) o a)) none

  -- no node stands where a slot of a file points
  slot_alone : (ino k : ℕ) → is_inode image ino ≡ true → nid_with image (tree_slot image ino k) ≡ None
  slot_alone ino k inode = go (nid_with image (tree_slot image ino k)) refl
    where
      go : (o : Option ℕ) → nid_with image (tree_slot image ino k) ≡ o → o ≡ None
      go None found = refl
      go (Some nid) found =
          let t = node_found image h (tree_slot image ino k) nid found in
          absurd (data_no_node image h (tree_slot image ino k) t.0 (slot_is_data image h ino k inode t.0).1 t.1)

  held_placed : (nid value : ℕ) → IsHeld image nid value → to value ≡ placed_data (layout image) targets moved value
  held_placed nid value s = subst (λ v. to v ≡ placed_data (layout image) targets moved v) s.stands (placed_alone (tree_slot image s.ino s.number) (slot_alone s.ino s.number s.inode))

  -- a moved data block does not stay
  pub data_leaves : (n : ℕ) → n < length moved → to (get_or moved n 0) ≡ get_or moved n 0 → ⊥
  data_leaves n low same = by_put (put_at (layout image) targets moved a) refl
    where
      a : ℕ
      a = get_or moved n 0

      used : is_used image (get_or moved n 0) ≡ true
      used = let t = data_used image h addresses mains n low in and_from _ _ t.0 (or_left _ _ t.1)

      by_put : (o : Option ℕ) → put_at (layout image) targets moved (get_or moved n 0) ≡ o → ⊥
      by_put None at = put_there_some (layout image) targets moved (get_or moved n 0) (list_any_at (λ y. y == get_or moved n 0) moved n 0 low (eq-eqb _ _ refl)) at
      by_put (Some place) at =
          let t = put_number (layout image) targets moved (get_or moved n 0) place at in
          let here : get_or moved n 0 ≡ target_block (layout image) targets t.0 = sym same ∙ to_data image addresses targets (get_or moved n 0) place at ∙ t.3 in
          target_unused image h addresses mains targets free t.0 (takes_low image h addresses mains targets free t.0 (get_or moved n 0) (inl (t.1, t.2))) (subst (λ x. is_used image x ≡ true) here used)

  -- an extent covers a block that moves where it covers an address that changes
  covers_same : (ino : ℕ) (b : Block) → is_inode image ino ≡ true → read_node image ino ≡ Some b → list_any (is_covered (regular_extent b)) moved ≡ covers_moved to b
  unfolding covers_moved
  covers_same ino b inode read = bools_same (list_any (is_covered (regular_extent b)) moved) (is_regular b && list_any changes (numbers_below (ext_len b))) forth back
    where
      changes : ℕ → Bool
      changes = λ i. not (to (ext_addr b + i) == ext_addr b + i)

      in_extent : (n : ℕ) → n < length moved → (r : Bool) → is_regular b ≡ r → is_covered (cond r (ext_addr b, ext_len b) (0, 0)) (get_or moved n 0) ≡ true
          → (is_regular b && list_any changes (numbers_below (ext_len b))) ≡ true
      in_extent n low false other covered =
          let below = ltb-true (get_or moved n 0) 0 (and_parts (nat_le 0 (get_or moved n 0)) (nat_lt (get_or moved n 0) 0) covered).1 in
          absurd (omega (arith, below))
      in_extent n low true regular covered =
          let parts = and_parts (nat_le (ext_addr b) (get_or moved n 0)) (nat_lt (get_or moved n 0) (ext_addr b + ext_len b)) covered in
          let first = leb-true (ext_addr b) (get_or moved n 0) parts.0 in
          let last = ltb-true (get_or moved n 0) (ext_addr b + ext_len b) parts.1 in
          let at : get_or moved n 0 ≡ ext_addr b + (get_or moved n 0 - ext_addr b) = omega (arith, first) in
          let change : changes (get_or moved n 0 - ext_addr b) ≡ true = subst (λ a. not (to a == a) ≡ true) at (ap not (ne_eqb (to (get_or moved n 0)) (get_or moved n 0) (data_leaves n low))) in
          and_from _ _ regular (some_below changes (ext_len b) (get_or moved n 0 - ext_addr b) (omega (arith, first, last)) change)

      forth : list_any (is_covered (regular_extent b)) moved ≡ true → (is_regular b && list_any changes (numbers_below (ext_len b))) ≡ true
      forth any =
          let t = Any-from_list_any (is_covered (regular_extent b)) moved any in
          let here : is_covered (regular_extent b) (get_or moved t.0 0) ≡ true = ap (is_covered (regular_extent b)) (get_or_default moved t.0 0 t.1 t.2 ∙ t.3) ∙ t.4 in
          in_extent t.0 t.2 (is_regular b) refl here

      back : (is_regular b && list_any changes (numbers_below (ext_len b))) ≡ true → list_any (is_covered (regular_extent b)) moved ≡ true
      back both = by_change (found_below changes (ext_len b) parts.1)
        where
          parts : (is_regular b ≡ true) × (list_any changes (numbers_below (ext_len b)) ≡ true)
          parts = and_parts (is_regular b) (list_any changes (numbers_below (ext_len b))) both

          extent : regular_extent b ≡ (ext_addr b, ext_len b)
          extent = ap (λ r. cond r (ext_addr b, ext_len b) (0, 0)) parts.0

          by_change : (i : ℕ) × (i < ext_len b) × (changes i ≡ true) → list_any (is_covered (regular_extent b)) moved ≡ true
          by_change (i, low, change) =
              ⊎_elim
              (λ same. absurd (false≢true (sym (not-true _ change) ∙ eq-eqb (to (ext_addr b + i)) (ext_addr b + i) same)))
              (λ t.
              let at : get_or moved t.0 0 ≡ ext_addr b + i = t.2 in
              let covered : is_covered (ext_addr b, ext_len b) (get_or moved t.0 0) ≡ true
              = and_from _ _ (le-leb (ext_addr b) (get_or moved t.0 0) (omega (arith, at))) (lt-ltb (get_or moved t.0 0) (ext_addr b + ext_len b) (omega (arith, at, low))) in
              list_any_at (is_covered (regular_extent b)) moved t.0 0 t.1 (ap (λ x. is_covered x (get_or moved t.0 0)) extent ∙ covered))
              (extent_goes image h addresses targets mains ino i b inode read parts.0 low)

  module _ (nid : ℕ) (e : NatEntry) (is : nat image nid ≡ Some e) where
    abbrev node : Block
    node = block_at image e.address

    address_placed : (j : ℕ) → IsAddressWord node j → placed_data (layout image) targets moved (word node j) ≡ to (word node j)
    address_placed j at = sym (held_placed nid (word node j) (held image h nid j e is at))

    -- each word
    word_shifted : (j : ℕ) → shifted_word (layout image) targets moved node j ≡ moved_word to node j
    unfolding shifted_word moved_word
    word_shifted j =
        same_choice (node_offset node == 0) (has_slots node && nat_le 90 j && nat_lt j (90 + address_count node)) (nat_le 87 j && nat_lt j 90) (is_direct (node_offset node) && nat_lt j 1018)
        (list_any (is_covered (regular_extent node)) moved) (covers_moved to node) (placed_data (layout image) targets moved (word node j)) (to (word node j)) (word node j)
        (λ inode all.
        let last = and_parts (has_slots node && nat_le 90 j) (nat_lt j (90 + address_count node)) all in
        let first = and_parts (has_slots node) (nat_le 90 j) last.0 in
        address_placed j (inl (eqb-true (node_offset node) 0 inode, first.0, leb-true 90 j first.1, ltb-true j (90 + address_count node) last.1)))
        (λ other both.
        let parts = and_parts (is_direct (node_offset node)) (nat_lt j 1018) both in
        address_placed j (inr (eqb-false (node_offset node) 0 other, parts.0, ltb-true j 1018 parts.1)))
        (λ inode. covers_same nid node (zero_inode image h nid e is (eqb-true (node_offset node) 0 inode)) (read_node-checked image (body_checked image h) nid e is))

    -- the node
    pub node_shifted : (new : Block) → IsBlock node → IsShifted (layout image) targets moved node new → IsMovedNode to node new
    node_shifted new bytes shifted = record { old = bytes; new = shifted.block; words = λ j low. shifted.words j low ∙ word_shifted j }
