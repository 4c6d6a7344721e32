-- A node that a batch does not move holds no address that moves, and no extent of blocks that move.
use Rattle.std.proofs.Common.{◌≡◌, ℕ, ◌+◌, ◌-◌, ◌<◌, ◌≤◌, ◌⊎◌, inl, inr, List, Bool, true, false, not, ◌==◌, ◌&&◌, ◌||◌, nat_lt, cond, length, get_or, All, Some, None, refl, sym, ap, ◌∙◌, subst, ⊎_elim, arith}
use Rattle.std.specs.Prelude.{option_map}
use Rattle.std.specs.Option.{option_map_or}
use Rattle.std.specs.List.{list_any}
use Rattle.std.proofs.lemmas.Bool.{and_parts, and_from, eq-eqb, eqb-true, not-true, not-false, le-leb, lt-ltb, cases_lt, cases_eq, false_from_ne_true, false≢true}
use Rattle.std.proofs.lemmas.List.Folds.{list_any_at}
use Rattle.f2_bytes.specs.Bytes.{Block, Image, IsBlock, block_at, word, numbers_below}
use Rattle.f2_bytes.specs.Superblock.{layout, is_main}
use Rattle.f2_bytes.specs.Journal.{NatEntry}
use Rattle.f2_bytes.specs.NodeAddressTable.{nid_limit, nat}
use Rattle.f2_bytes.specs.Node.{most_blocks, node_offset, has_slots, is_direct, is_regular, is_inline, address_count, block_limit, ext_fofs, ext_addr, ext_len}
use Rattle.f2_bytes.specs.Tree.{read_node, tree_slot, is_inode}
use Rattle.f2_bytes.specs.Check.{defects, inode_parts, inode_of, extent_found, none_value, is_checked, is_data, is_node, nid_with, nid_of_spot}
use Rattle.f2_bytes.specs.Moved.{IsMovedNode, moved_word, covers_moved}
use Rattle.f2_bytes.specs.Defragment.{placement, is_among, is_covered, is_moved_node, nodes_among, all_places, regular_extent}
use Rattle.f2_bytes.proofs.Below.{found_below}
use Rattle.f2_bytes.proofs.CheckLaws.{none_fails}
use Rattle.f2_bytes.proofs.CheckedChain.{rule_met, part_clear}
use Rattle.f2_bytes.proofs.CheckedNodes.{no_part, nat-below, read_node-checked}
use Rattle.f2_bytes.proofs.CheckedUsed.{main_range, entry_node, entry_in_main, slot_data, inode_below}
use Rattle.f2_bytes.proofs.MovedSlots.{tree_slot-past}
use Rattle.f2_bytes.proofs.MovedWords.{inode_low, inode_high, inode_filled, inode_slot, extent_kept, node_slot, node_kept, footer_word}
use Rattle.f2_bytes.proofs.SlotSupport.{body_checked}
use Rattle.f2_commit.specs.Moves.{moved_data, moved_nodes, new_address}
use Rattle.f2_commit.proofs.MoveAddresses.{nid_with-entry, data_used, data_no_node}
use Rattle.f2_commit.proofs.MoveAmong.{among_kept, some_place}
use Rattle.f2_commit.proofs.MoveLands.{Takes, Goes, goes}
use Rattle.f2_commit.proofs.MoveNodes.{holder_there}
use Rattle.f2_commit.proofs.MoveWords.{IsAddressWord, IsHeld, zero_inode, held}

or_first : (a b c : Bool) → a ≡ true → (a || b || c) ≡ true
or_first a b c h = rw h refl

or_second : (a b c : Bool) → b ≡ true → (a || b || c) ≡ true
or_second true b c h = refl
or_second false b c h = rw h refl

or_third : (a b c : Bool) → c ≡ true → (a || b || c) ≡ true
or_third true b c h = refl
or_third false true c h = refl
or_third false false c h = h

inner : (a b : Bool) (x y z : ℕ) → a ≡ false → b ≡ true → cond a 0 (cond b x y) ≡ z → x ≡ z
inner a b x y z none some e = sym (rw (none, some) refl) ∙ e

module _ (image : Image) (h : is_checked image ≡ true) where
  -- where a node is found one stands, in main
  pub node_found : (a nid : ℕ) → nid_with image a ≡ Some nid → (is_main (layout image) a ≡ true) × (is_node image a ≡ true)
  node_found a nid found =
      let e = nid_with-entry image a nid found in
      (subst (λ x. is_main (layout image) x ≡ true) e.2 (entry_in_main image h nid e.0 e.1), subst (λ x. is_node image x ≡ true) e.2 (entry_node image h nid e.0 e.1))

  -- an address of main that a slot holds is that of a block of a file
  pub slot_is_data : (ino k : ℕ) → is_inode image ino ≡ true → is_main (layout image) (tree_slot image ino k) ≡ true → (k < most_blocks) × (is_data image (tree_slot image ino k) ≡ true)
  slot_is_data ino k inode main = by_limit (cases_lt k most_blocks)
    where
      by_limit : (k < most_blocks) ⊎ (most_blocks ≤ k) → (k < most_blocks) × (is_data image (tree_slot image ino k) ≡ true)
      by_limit (inl within) = (within, slot_data image h ino k inode within)
      by_limit (inr past) =
          let hole = tree_slot-past image ino k past in
          let low = (main_range image h (tree_slot image ino k) main).0 in
          absurd (omega (arith, hole, low))

  -- what an inode's extent covers in main are blocks of its file
  extent_says : (ino i : ℕ) (b : Block) → is_inode image ino ≡ true → read_node image ino ≡ Some b → is_regular b ≡ true → i < ext_len b → extent_found b (tree_slot image ino) (ext_fofs b + i) ≡ ext_addr b + i
  unfolding inode_parts defects
  extent_says ino i b inode read regular low =
      let k = ext_fofs b + i in
      let found = extent_found b (tree_slot image ino) k in
      let wanted = ext_addr b + k - ext_fofs b in
      let is : inode_of image ino ≡ Some b = ap (λ c. cond c (read_node image ino) None) inode ∙ read in
      let end : k < option_map_or (λ x. ext_fofs x + ext_len x) (inode_of image ino) 0 = rw is (omega (arith, low)) in
      let clear = part_clear (inode_parts image) (rule_met image (body_checked image h) 9 (omega arith) (omega arith)) 2 no_part (omega arith) in
      eqb-true found wanted (not-false _ (none_fails _ clear ino k (inode_below image h ino inode) end
      (record { found = found; wanted = wanted; fails = not (found == wanted) }) (rw (is, regular, le-leb (ext_fofs b) k (omega arith)) refl)))
      ∙ omega arith

  pub extent_data : (ino i : ℕ) (b : Block) → is_inode image ino ≡ true → read_node image ino ≡ Some b → is_regular b ≡ true → i < ext_len b → is_main (layout image) (ext_addr b + i) ≡ true → is_data image (ext_addr b + i) ≡ true
  extent_data ino i b inode read regular low main = by_inline (is_inline b) refl (nat_lt k (block_limit (address_count b))) refl
    where
      k : ℕ
      k = ext_fofs b + i

      says : extent_found b (tree_slot image ino) (ext_fofs b + i) ≡ ext_addr b + i
      says = extent_says ino i b inode read regular low

      range : (0 < ext_addr b + i) × (ext_addr b + i < 4294967295)
      range = main_range image h (ext_addr b + i) main

      by_inline : (a : Bool) → is_inline b ≡ a → (c : Bool) → nat_lt (ext_fofs b + i) (block_limit (address_count b)) ≡ c → is_data image (ext_addr b + i) ≡ true
      by_inline true inside c past =
          let none : 0 ≡ ext_addr b + i = sym (ap (λ x. cond x 0 (cond (nat_lt (ext_fofs b + i) (block_limit (address_count b))) (tree_slot image ino (ext_fofs b + i)) none_value)) inside) ∙ says in
          let some = range.0 in
          absurd (omega (arith, none, some))
      by_inline false outside false past =
          let none : none_value ≡ ext_addr b + i
          = sym (λ j. cond (outside j) 0 (cond (past j) (tree_slot image ino (ext_fofs b + i)) none_value)) ∙ says in
          let few = range.1 in
          absurd (omega (arith, none, few))
      by_inline false outside true within =
          let at : tree_slot image ino (ext_fofs b + i) ≡ ext_addr b + i
          = inner (is_inline b) (nat_lt (ext_fofs b + i) (block_limit (address_count b))) (tree_slot image ino (ext_fofs b + i)) none_value (ext_addr b + i) outside within says in
          subst (λ x. is_data image x ≡ true) at (slot_is_data ino (ext_fofs b + i) inode (ap (is_main (layout image)) at ∙ main)).1

  module _ (addresses targets : List ℕ) (mains : All (λ a. is_main (layout image) a ≡ true) addresses) where
    abbrev to : ℕ → ℕ
    to = new_address image addresses targets

    -- the test of a node that moves
    abbrev moves : ℕ → Bool
    moves nid = is_moved_node (nid_limit (layout image)) (placement image) addresses (moved_data image addresses) nid

    moves_among : (nid : ℕ) → nid < nid_limit (layout image) → moves nid ≡ true → is_among (moved_nodes image addresses) nid ≡ true
    unfolding nodes_among
    moves_among nid low passes = among_kept (is_moved_node (nid_limit (layout image)) (placement image) addresses (moved_data image addresses)) (nid_limit (layout image)) nid low passes

    -- the node that holds the address of a block that moves, and the file with an extent of it, move
    pub holder_moves : (ino k n : ℕ) → is_inode image ino ≡ true → n < length (moved_data image addresses) → get_or (moved_data image addresses) n 0 ≡ tree_slot image ino k → is_among (moved_nodes image addresses) (nid_of_spot image (ino, k)) ≡ true
    unfolding placement
    holder_moves ino k n inode low at =
        let main : is_main (layout image) (tree_slot image ino k) ≡ true = ap (is_main (layout image)) (sym at) ∙ (data_used image h addresses mains n low).0 in
        let holder = holder_there image h ino k inode main in
        let among : is_among (moved_data image addresses) (tree_slot image ino k) ≡ true = list_any_at (λ y. y == tree_slot image ino k) (moved_data image addresses) n 0 low (eq-eqb _ _ at) in
        let slot : cond (is_inode image ino) (tree_slot image ino k) 0 ≡ tree_slot image ino k = ap (λ c. cond c (tree_slot image ino k) 0) inode in
        let nid = nid_of_spot image (ino, k) in
        moves_among nid (nat-below image nid holder.0 holder.1)
        (or_second _ _ _ (some_place (λ place. is_among (moved_data image addresses) (cond (is_inode image place.0) (tree_slot image place.0 place.1) 0) && (nid_of_spot image (place.0, place.1) == nid)) (nid_limit (layout image)) ino k
        (inode_below image h ino inode) (slot_is_data ino k inode main).0
        (and_from _ _ (ap (is_among (moved_data image addresses)) slot ∙ among) (eq-eqb nid nid refl))))

    pub extent_moves : (ino i n : ℕ) (b : Block) → is_inode image ino ≡ true → read_node image ino ≡ Some b → is_regular b ≡ true → i < ext_len b → n < length (moved_data image addresses)
        → get_or (moved_data image addresses) n 0 ≡ ext_addr b + i → is_among (moved_nodes image addresses) ino ≡ true
    unfolding placement
    extent_moves ino i n b inode read regular within low at =
        let extent : cond (is_inode image ino) (option_map_or regular_extent (read_node image ino) (0, 0)) (0, 0) ≡ (ext_addr b, ext_len b)
        = ap (λ c. cond c (option_map_or regular_extent (read_node image ino) (0, 0)) (0, 0)) inode ∙ ap (λ o. option_map_or regular_extent o (0, 0)) read ∙ ap (λ c. cond c (ext_addr b, ext_len b) (0, 0)) regular in
        let covered : is_covered (ext_addr b, ext_len b) (get_or (moved_data image addresses) n 0) ≡ true
        = and_from _ _ (le-leb (ext_addr b) (get_or (moved_data image addresses) n 0) (omega (arith, at))) (lt-ltb (get_or (moved_data image addresses) n 0) (ext_addr b + ext_len b) (omega (arith, at, within))) in
        let any : list_any (is_covered (ext_addr b, ext_len b)) (moved_data image addresses) ≡ true = list_any_at (is_covered (ext_addr b, ext_len b)) (moved_data image addresses) n 0 low covered in
        moves_among ino (inode_below image h ino inode)
        (or_third (option_map_or (is_among addresses) (option_map (λ e. e.address) (nat image ino)) false) (list_any (λ place. is_among (moved_data image addresses) ((placement image).slot place.0 place.1) && ((placement image).holder place.0 place.1 == ino)) (all_places (nid_limit (layout image)))) _
        (ap (λ x. list_any (is_covered x) (moved_data image addresses)) extent ∙ any))

    -- a slot of a node that stays holds an address that stays
    pub slot_stays : (nid value : ℕ) → IsHeld image nid value → is_among (moved_nodes image addresses) nid ≡ false → to value ≡ value
    slot_stays nid value s other = subst (λ v. to v ≡ v) s.stands (by (goes image addresses targets (tree_slot image s.ino s.number)))
      where
        by_takes : (n : ℕ) → Takes image addresses targets n (tree_slot image s.ino s.number) → ⊥
        by_takes n (inl t) =
            let among = holder_moves s.ino s.number n s.inode t.0 t.1 in
            false≢true (sym other ∙ ap (is_among (moved_nodes image addresses)) (sym s.holder) ∙ among)
        by_takes n (inr t) =
            let u = node_found (tree_slot image s.ino s.number) (get_or (moved_nodes image addresses) t.0 0) t.3 in
            data_no_node image h (tree_slot image s.ino s.number) u.0 (slot_is_data s.ino s.number s.inode u.0).1 u.1

        by : Goes image addresses targets (tree_slot image s.ino s.number) → to (tree_slot image s.ino s.number) ≡ tree_slot image s.ino s.number
        by (inl same) = same
        by (inr t) = absurd (by_takes t.0 t.2)

    -- what an extent covers stays, or is a block that moves
    pub extent_goes : (ino i : ℕ) (b : Block) → is_inode image ino ≡ true → read_node image ino ≡ Some b → is_regular b ≡ true → i < ext_len b
        → (to (ext_addr b + i) ≡ ext_addr b + i) ⊎ ((n : ℕ) × (n < length (moved_data image addresses)) × (get_or (moved_data image addresses) n 0 ≡ ext_addr b + i))
    extent_goes ino i b inode read regular low = by (goes image addresses targets (ext_addr b + i))
      where
        by : Goes image addresses targets (ext_addr b + i) → (to (ext_addr b + i) ≡ ext_addr b + i) ⊎ ((n : ℕ) × (n < length (moved_data image addresses)) × (get_or (moved_data image addresses) n 0 ≡ ext_addr b + i))
        by (inl same) = inl same
        by (inr t) = by_takes t.0 t.2
          where
            by_takes : (n : ℕ) → Takes image addresses targets n (ext_addr b + i)
                → (to (ext_addr b + i) ≡ ext_addr b + i) ⊎ ((k : ℕ) × (k < length (moved_data image addresses)) × (get_or (moved_data image addresses) k 0 ≡ ext_addr b + i))
            by_takes n (inl d) = inr (n, d.0, d.1)
            by_takes n (inr d) =
                let u = node_found (ext_addr b + i) (get_or (moved_nodes image addresses) d.0 0) d.3 in
                absurd (data_no_node image h (ext_addr b + i) u.0 (extent_data ino i b inode read regular low u.0) u.1)

    pub covers_none : (ino : ℕ) (b : Block) → is_inode image ino ≡ true → read_node image ino ≡ Some b → is_among (moved_nodes image addresses) ino ≡ false → covers_moved to b ≡ false
    unfolding covers_moved
    covers_none ino b inode read other = false_from_ne_true _ (λ covers. by_parts (and_parts (is_regular b) (list_any (λ i. not (to (ext_addr b + i) == ext_addr b + i)) (numbers_below (ext_len b))) covers))
      where
        by_parts : (is_regular b ≡ true) × (list_any (λ i. not (to (ext_addr b + i) == ext_addr b + i)) (numbers_below (ext_len b)) ≡ true) → ⊥
        by_parts (regular, any) = by (found_below (λ i. not (to (ext_addr b + i) == ext_addr b + i)) (ext_len b) any)
          where
            by : (i : ℕ) × (i < ext_len b) × (not (to (ext_addr b + i) == ext_addr b + i) ≡ true) → ⊥
            by (i, low, away) =
                ⊎_elim
                (λ same. false≢true (sym (not-true _ away) ∙ eq-eqb (to (ext_addr b + i)) (ext_addr b + i) same))
                (λ t. false≢true (sym other ∙ extent_moves ino i t.0 b inode read regular low t.1 t.2))
                (extent_goes ino i b inode read regular low)

    -- each word of a node that stays stays
    pub word_stays : (nid j : ℕ) (e : NatEntry) → nat image nid ≡ Some e → is_among (moved_nodes image addresses) nid ≡ false → moved_word to (block_at image e.address) j ≡ word (block_at image e.address) j
    word_stays nid j e is other = by_offset (cases_eq (node_offset (block_at image e.address)) 0)
      where
        b : Block
        b = block_at image e.address

        stays : IsAddressWord (block_at image e.address) j → to (word (block_at image e.address) j) ≡ word (block_at image e.address) j
        stays at = slot_stays nid (word (block_at image e.address) j) (held image h nid j e is at) other

        by_slots : node_offset (block_at image e.address) ≡ 0 → 90 ≤ j → j < 90 + address_count (block_at image e.address) → (s : Bool) → has_slots (block_at image e.address) ≡ s → moved_word to (block_at image e.address) j ≡ word (block_at image e.address) j
        by_slots zero high low true slots = inode_slot to (block_at image e.address) j zero slots high low ∙ stays (inl (zero, slots, high, low))
        by_slots zero high low false none = inode_filled to (block_at image e.address) j zero none high

        by_place : node_offset (block_at image e.address) ≡ 0 → (j < 87) ⊎ (87 ≤ j) → (j < 90) ⊎ (90 ≤ j) → (j < 90 + address_count (block_at image e.address)) ⊎ (90 + address_count (block_at image e.address) ≤ j)
            → moved_word to (block_at image e.address) j ≡ word (block_at image e.address) j
        by_place zero (inl low) second third = inode_low to (block_at image e.address) j zero low
        by_place zero (inr high) (inl low) third =
            extent_kept to (block_at image e.address) j zero
            (covers_none nid (block_at image e.address) (zero_inode image h nid e is zero) (read_node-checked image (body_checked image h) nid e is) other) high low
        by_place zero (inr first) (inr high) (inl low) = by_slots zero high low (has_slots (block_at image e.address)) refl
        by_place zero (inr first) (inr second) (inr high) = inode_high to (block_at image e.address) j zero high

        by_direct : (node_offset (block_at image e.address) ≡ 0 → ⊥) → (d : Bool) → is_direct (node_offset (block_at image e.address)) ≡ d → (j < 1018) ⊎ (1018 ≤ j) → moved_word to (block_at image e.address) j ≡ word (block_at image e.address) j
        by_direct away true direct (inl low) = node_slot to (block_at image e.address) j away direct low ∙ stays (inr (away, direct, low))
        by_direct away true direct (inr high) = footer_word to (block_at image e.address) j high
        by_direct away false none low = node_kept to (block_at image e.address) j away none

        by_offset : (node_offset (block_at image e.address) ≡ 0) ⊎ (node_offset (block_at image e.address) ≡ 0 → ⊥) → moved_word to (block_at image e.address) j ≡ word (block_at image e.address) j
        by_offset (inl zero) = by_place zero (cases_lt j 87) (cases_lt j 90) (cases_lt j (90 + address_count (block_at image e.address)))
        by_offset (inr away) = by_direct away (is_direct (node_offset (block_at image e.address))) refl (cases_lt j 1018)

    pub node_stays_same : (nid : ℕ) (e : NatEntry) → IsBlock (block_at image e.address) → nat image nid ≡ Some e → is_among (moved_nodes image addresses) nid ≡ false → IsMovedNode to (block_at image e.address) (block_at image e.address)
    node_stays_same nid e bytes is other = record { old = bytes; new = bytes; words = λ j low. sym (word_stays nid j e is other) }
