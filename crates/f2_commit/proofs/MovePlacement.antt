-- Where everything stands in an image that carries a batch of moves.
use Rattle.std.proofs.Common.{◌≡◌, ℕ, ◌+◌, ◌-◌, ◌/◌, ◌<◌, inl, List, Bool, true, false, not, ◌==◌, nat_lt, nat_le, cond, length, get_or, All, Option, Some, None, refl, sym, ap, ◌∙◌, subst, ⊎_elim, arith}
use Rattle.std.specs.Prelude.{option_map, option_and_then, unwrap_or}
use Rattle.std.specs.Option.{option_map_or}
use Rattle.std.specs.List.{list_any}
use Rattle.std.proofs.lemmas.Bool.{and_parts, and_from, or_left, eq-eqb, ne_eqb, not-true, not_from_false, leb-true, ltb-true, le-leb, lt-ltb, false_from_ne_true, false≢true}
use Rattle.std.proofs.lemmas.List.{get_or_default}
use Rattle.std.proofs.lemmas.List.Folds.{Any-from_list_any, list_any_at}
use Rattle.f2_bytes.specs.Bytes.{Block, Image, numbers_below}
use Rattle.f2_bytes.specs.Superblock.{layout, is_main}
use Rattle.f2_bytes.specs.Journal.{NatEntry}
use Rattle.f2_bytes.specs.NodeAddressTable.{nid_limit, nat}
use Rattle.f2_bytes.specs.Node.{is_regular, ext_addr, ext_len, locate, address_count}
use Rattle.f2_bytes.specs.Tree.{read_node, nid_slot, tree_slot, is_inode}
use Rattle.f2_bytes.specs.Check.{is_checked, is_node, nid_with, spot_of, nid_of_spot}
use Rattle.f2_bytes.specs.Moved.{IsMoved, moved_entry, covers_moved, is_used}
use Rattle.f2_bytes.specs.Defragment.{placement, regular_extent, is_covered, put_at, target_block, moved_batch}
use Rattle.f2_bytes.proofs.Below.{found_below, some_below}
use Rattle.f2_bytes.proofs.CheckedUsed.{main_range}
use Rattle.f2_bytes.proofs.MovedReads.{IsMovedInode, ReadsMoved}
use Rattle.f2_bytes.proofs.MovedSlots.{reads_moved}
use Rattle.f2_bytes.proofs.MovedWords.{extent_gone, extent_agrees}
use Rattle.f2_bytes.proofs.SameBytes.{narrow, number_same}
use Rattle.f2_commit.specs.Moves.{AreTargets, AreSamePlaces, moved_data, moved_nodes, node_targets, new_address}
use Rattle.f2_commit.proofs.MoveAddresses.{data_used, data_no_node}
use Rattle.f2_commit.proofs.MoveAmong.{put_there_some}
use Rattle.f2_commit.proofs.MoveBlocks.{to_data}
use Rattle.f2_commit.proofs.MoveKept.{node_found, slot_is_data, extent_goes}
use Rattle.f2_commit.proofs.MoveLands.{holes-moved, takes_low, target_unused}
use Rattle.f2_commit.proofs.MoveMarked.{node_no_data, found_node}
use Rattle.f2_commit.proofs.MoveSums.{same_cond}
use Rattle.f2_commit.proofs.MoveTargets.{put_number}

-- ---- the new address, as the placement says it

module _ (image : Image) (addresses targets : List ℕ) (a : ℕ) where
  by_nid : ℕ → ℕ
  by_nid nid = unwrap_or (put_at (layout image) (node_targets image addresses targets) (moved_nodes image addresses) nid) a

  otherwise : ℕ
  otherwise = option_map_or by_nid (nid_with image a) a

  pub node_goes : (nid : ℕ) → put_at (layout image) targets (moved_data image addresses) a ≡ None → nid_with image a ≡ Some nid
      → new_address image addresses targets a ≡ unwrap_or (put_at (layout image) (node_targets image addresses targets) (moved_nodes image addresses) nid) a
  unfolding new_address otherwise by_nid
  node_goes nid none found = ap (λ o. unwrap_or o otherwise) none ∙ ap (λ o. option_map_or by_nid o a) found

  pub data_goes : nid_with image a ≡ None → new_address image addresses targets a ≡ unwrap_or (put_at (layout image) targets (moved_data image addresses) a) a
  unfolding new_address otherwise by_nid
  data_goes none = ap (λ o. unwrap_or (put_at (layout image) targets (moved_data image addresses) a) (option_map_or by_nid o a)) none

module _ (image : Image) (h : is_checked image ≡ true) (addresses : List ℕ) (mains : All (λ a. is_main (layout image) a ≡ true) addresses) (targets : List ℕ) (free : AreTargets image addresses targets) where
  abbrev to : ℕ → ℕ
  to = new_address image addresses targets

  -- no node stands at a slot's address, nor at 0
  pub no_node : (a : ℕ) → ((is_main (layout image) a ≡ true) × (is_node image a ≡ true) → ⊥) → nid_with image a ≡ None
  no_node a never = go (nid_with image a) refl
    where
      go : (o : Option ℕ) → nid_with image a ≡ o → o ≡ None
      go None found = refl
      go (Some nid) found = absurd (never (node_found image h a nid found))

  no_node_slot : (ino k : ℕ) → is_inode image ino ≡ true → nid_with image (tree_slot image ino k) ≡ None
  no_node_slot ino k inode = no_node (tree_slot image ino k) (λ u. data_no_node image h (tree_slot image ino k) u.0 (slot_is_data image h ino k inode u.0).1 u.1)

  no_node_hole : nid_with image 0 ≡ None
  no_node_hole = no_node 0 (λ u. let low = (main_range image h 0 u.0).0 in omega (arith, low))

  -- ---- extents

  -- a block that moves does
  pub data_leaves : (n : ℕ) → n < length (moved_data image addresses) → to (get_or (moved_data image addresses) n 0) ≡ get_or (moved_data image addresses) n 0 → ⊥
  data_leaves n low same = by_put (put_at (layout image) targets (moved_data image addresses) a) refl
    where
      a : ℕ
      a = get_or (moved_data image addresses) n 0

      used : is_used image (get_or (moved_data image addresses) n 0) ≡ true
      used = let d = data_used image h addresses mains n low in and_from _ _ d.0 (or_left _ _ d.1)

      among : list_any (λ y. y == get_or (moved_data image addresses) n 0) (moved_data image addresses) ≡ true
      among = list_any_at (λ y. y == get_or (moved_data image addresses) n 0) (moved_data image addresses) n 0 low (eq-eqb _ _ refl)

      by_put : (o : Option ℕ) → put_at (layout image) targets (moved_data image addresses) (get_or (moved_data image addresses) n 0) ≡ o → ⊥
      by_put None at = put_there_some (layout image) targets (moved_data image addresses) (get_or (moved_data image addresses) n 0) among at
      by_put (Some place) at =
          let t = put_number (layout image) targets (moved_data image addresses) (get_or (moved_data image addresses) n 0) place at in
          let there : get_or (moved_data image addresses) n 0 ≡ target_block (layout image) targets t.0
          = sym same ∙ to_data image addresses targets (get_or (moved_data image addresses) n 0) place at ∙ t.3 in
          target_unused image h addresses mains targets free t.0 (takes_low image h addresses mains targets free t.0 (get_or (moved_data image addresses) n 0) (inl (t.1, t.2)))
          (subst (λ x. is_used image x ≡ true) there used)

  -- an extent covers a block that moves where the batch has one of its blocks
  covers_any : (ino : ℕ) (b : Block) → is_inode image ino ≡ true → read_node image ino ≡ Some b → is_regular b ≡ true → covers_moved to b ≡ true → list_any (is_covered (ext_addr b, ext_len b)) (moved_data image addresses) ≡ true
  unfolding covers_moved
  covers_any ino b inode read regular covers =
      by (found_below (λ i. not (to (ext_addr b + i) == ext_addr b + i)) (ext_len b) (and_parts (is_regular b) (list_any (λ i. not (to (ext_addr b + i) == ext_addr b + i)) (numbers_below (ext_len b))) covers).1)
    where
      by : (i : ℕ) × (i < ext_len b) × (not (to (ext_addr b + i) == ext_addr b + i) ≡ true) → list_any (is_covered (ext_addr b, ext_len b)) (moved_data image addresses) ≡ true
      by (i, low, away) =
          ⊎_elim
          (λ same. absurd (false≢true (sym (not-true _ away) ∙ eq-eqb (to (ext_addr b + i)) (ext_addr b + i) same)))
          (λ t.
          let at = t.2 in
          list_any_at (is_covered (ext_addr b, ext_len b)) (moved_data image addresses) t.0 0 t.1
          (and_from _ _ (le-leb (ext_addr b) (get_or (moved_data image addresses) t.0 0) (omega (arith, at))) (lt-ltb (get_or (moved_data image addresses) t.0 0) (ext_addr b + ext_len b) (omega (arith, at, low)))))
          (extent_goes image h addresses targets mains ino i b inode read regular low)

  any_covers : (b : Block) → is_regular b ≡ true → list_any (is_covered (ext_addr b, ext_len b)) (moved_data image addresses) ≡ true → covers_moved to b ≡ true
  unfolding covers_moved
  any_covers b regular any = by (Any-from_list_any (is_covered (ext_addr b, ext_len b)) (moved_data image addresses) any)
    where
      by : (n : ℕ) × (x : ℕ) × (n < length (moved_data image addresses)) × (get_or (moved_data image addresses) n x ≡ x) × (is_covered (ext_addr b, ext_len b) x ≡ true) → covers_moved to b ≡ true
      by (n, x, low, at, covered) =
          let parts = and_parts (nat_le (ext_addr b) x) (nat_lt x (ext_addr b + ext_len b)) covered in
          let high = leb-true (ext_addr b) x parts.0 in
          let below = ltb-true x (ext_addr b + ext_len b) parts.1 in
          let here : get_or (moved_data image addresses) n 0 ≡ x = get_or_default (moved_data image addresses) n 0 x low ∙ at in
          let whole : ext_addr b + (x - ext_addr b) ≡ x = omega (arith, high) in
          let leaves : (to (ext_addr b + (x - ext_addr b)) == ext_addr b + (x - ext_addr b)) ≡ false
          = ne_eqb (to (ext_addr b + (x - ext_addr b))) (ext_addr b + (x - ext_addr b)) (λ same. data_leaves n low (ap to (here ∙ sym whole) ∙ same ∙ whole ∙ sym here)) in
          and_from _ _ regular (some_below (λ i. not (to (ext_addr b + i) == ext_addr b + i)) (ext_len b) (x - ext_addr b) (omega (arith, high, below)) (not_from_false _ leaves))

  module _ (other : Image) (moved : IsMoved (new_address image addresses targets) image other) where
    reads : ReadsMoved to image other
    reads = reads_moved to image other h moved

    -- ---- nodes

    node_placed : (nid : ℕ) → option_map (λ e. e.address) (nat other nid)
        ≡ option_map (λ old. unwrap_or (put_at (layout image) (node_targets image addresses targets) (moved_nodes image addresses) nid) old) (option_map (λ e. e.address) (nat image nid))
    node_placed nid = ap (option_map (λ (e : NatEntry). e.address)) (moved.table nid) ∙ go (nat image nid) refl
      where
        go : (o : Option NatEntry) → nat image nid ≡ o → option_map (λ (e : NatEntry). e.address) (option_map (moved_entry to) o)
            ≡ option_map (λ old. unwrap_or (put_at (layout image) (node_targets image addresses targets) (moved_nodes image addresses) nid) old) (option_map (λ (e : NatEntry). e.address) o)
        go None is = refl
        go (Some e) is = ap Some (node_goes image addresses targets e.address nid (node_no_data image h addresses targets mains nid e is) (found_node image h nid e is))

    -- ---- blocks of files

    slot_placed : (ino k : ℕ) → cond (is_inode other ino) (tree_slot other ino k) 0
        ≡ unwrap_or (put_at (layout image) targets (moved_data image addresses) (cond (is_inode image ino) (tree_slot image ino k) 0)) (cond (is_inode image ino) (tree_slot image ino k) 0)
    slot_placed ino k = ap (λ i. cond i (tree_slot other ino k) 0) (reads.same_inode ino) ∙ go (is_inode image ino) refl
      where
        go : (i : Bool) → is_inode image ino ≡ i → cond i (tree_slot other ino k) 0 ≡ unwrap_or (put_at (layout image) targets (moved_data image addresses) (cond i (tree_slot image ino k) 0)) (cond i (tree_slot image ino k) 0)
        go true inode = reads.slot ino k inode ∙ data_goes image addresses targets (tree_slot image ino k) (no_node_slot ino k inode)
        go false none = sym (holes-moved image h addresses mains targets free) ∙ data_goes image addresses targets 0 no_node_hole

    -- ---- extents

    extent_kept_placed : (ino : ℕ) (b c : Block) → is_inode image ino ≡ true → read_node image ino ≡ Some b → IsMovedInode to b c
        → regular_extent c ≡ cond (list_any (is_covered (regular_extent b)) (moved_data image addresses)) (0, 0) (regular_extent b)
    extent_kept_placed ino b c inode read n = by_regular (is_regular b) refl
      where
        same : is_regular c ≡ is_regular b
        same = ap (λ x. x / 4096 == 8) n.same_mode

        by_covers : is_regular b ≡ true → (v : Bool) → covers_moved to b ≡ v → regular_extent c ≡ cond (list_any (is_covered (ext_addr b, ext_len b)) (moved_data image addresses)) (0, 0) (ext_addr b, ext_len b)
        by_covers regular true covers =
            let address : ext_addr c ≡ 0 = n.node.words 88 (omega arith) ∙ extent_gone to b 88 n.at_zero covers (omega arith) (omega arith) in
            let len : ext_len c ≡ 0 = n.node.words 89 (omega arith) ∙ extent_gone to b 89 n.at_zero covers (omega arith) (omega arith) in
            ap (λ r. cond r (ext_addr c, ext_len c) (0, 0)) (same ∙ regular)
            ∙ (λ i. (address i, len i))
            ∙ sym (ap (λ r. cond r (0, 0) (ext_addr b, ext_len b)) (covers_any ino b inode read regular covers))
        by_covers regular false free_of =
            let agree = extent_agrees to b c n.node n.at_zero free_of in
            let address : ext_addr c ≡ ext_addr b = number_same b c 352 4 (narrow b c 348 360 352 356 agree (omega arith) (omega arith)) in
            let len : ext_len c ≡ ext_len b = number_same b c 356 4 (narrow b c 348 360 356 360 agree (omega arith) (omega arith)) in
            let none : list_any (is_covered (ext_addr b, ext_len b)) (moved_data image addresses) ≡ false = false_from_ne_true _ (λ any. false≢true (sym free_of ∙ any_covers b regular any)) in
            ap (λ r. cond r (ext_addr c, ext_len c) (0, 0)) (same ∙ regular)
            ∙ (λ i. (address i, len i))
            ∙ sym (ap (λ r. cond r (0, 0) (ext_addr b, ext_len b)) none)

        by_regular : (r : Bool) → is_regular b ≡ r → regular_extent c ≡ cond (list_any (is_covered (regular_extent b)) (moved_data image addresses)) (0, 0) (regular_extent b)
        by_regular true regular =
            by_covers regular (covers_moved to b) refl
            ∙ sym (ap (λ x. cond (list_any (is_covered x) (moved_data image addresses)) (0, 0) x) (ap (λ r. cond r (ext_addr b, ext_len b) (0, 0)) regular))
        by_regular false none =
            let empty : regular_extent b ≡ (0, 0) = ap (λ r. cond r (ext_addr b, ext_len b) (0, 0)) none in
            ap (λ r. cond r (ext_addr c, ext_len c) (0, 0)) (same ∙ none)
            ∙ sym (same_cond (list_any (is_covered (0, 0)) (moved_data image addresses)) (0, 0))
            ∙ sym (ap (λ x. cond (list_any (is_covered x) (moved_data image addresses)) (0, 0) x) empty)

    extent_placed : (ino : ℕ) → cond (is_inode other ino) (option_map_or regular_extent (read_node other ino) (0, 0)) (0, 0)
        ≡ cond (list_any (is_covered (cond (is_inode image ino) (option_map_or regular_extent (read_node image ino) (0, 0)) (0, 0))) (moved_data image addresses)) (0, 0)
        (cond (is_inode image ino) (option_map_or regular_extent (read_node image ino) (0, 0)) (0, 0))
    extent_placed ino = ap (λ i. cond i (option_map_or regular_extent (read_node other ino) (0, 0)) (0, 0)) (reads.same_inode ino) ∙ go (is_inode image ino) refl
      where
        go : (i : Bool) → is_inode image ino ≡ i → cond i (option_map_or regular_extent (read_node other ino) (0, 0)) (0, 0)
            ≡ cond (list_any (is_covered (cond i (option_map_or regular_extent (read_node image ino) (0, 0)) (0, 0))) (moved_data image addresses)) (0, 0) (cond i (option_map_or regular_extent (read_node image ino) (0, 0)) (0, 0))
        go false none = sym (same_cond (list_any (is_covered (0, 0)) (moved_data image addresses)) (0, 0))
        go true inode =
            let t = reads.inode ino inode in
            ap (λ o. option_map_or regular_extent o (0, 0)) t.3
            ∙ extent_kept_placed ino t.0 t.1 inode t.2 t.4
            ∙ sym (ap (λ o. cond (list_any (is_covered (option_map_or regular_extent o (0, 0))) (moved_data image addresses)) (0, 0) (option_map_or regular_extent o (0, 0))) t.2)

    -- ---- holders

    abbrev spot_in : ℕ × ℕ → Option Block → ℕ × ℕ
    spot_in place o = unwrap_or (option_and_then (λ b. locate place.1 (address_count b)) o) (0, 0)

    -- the address of a file's block is held by the same node
    pub holder_placed : (ino k : ℕ) → is_inode image ino ≡ true → nid_of_spot other (ino, k) ≡ nid_of_spot image (ino, k)
    holder_placed ino k inode =
        let t = reads.inode ino inode in
        let spot : spot_of other (ino, k) ≡ spot_of image (ino, k)
        = ap (spot_in (ino, k)) t.3 ∙ ap (λ n. unwrap_or (locate k n) (0, 0)) t.4.same_count ∙ sym (ap (spot_in (ino, k)) t.2) in
        ap (λ s. cond (s.0 == 0) ino (nid_slot other ino s.0)) spot
        ∙ ap (λ n. cond ((spot_of image (ino, k)).0 == 0) ino n) (reads.same_nid_slot ino (spot_of image (ino, k)).0 inode)

    -- a slot that is no hole is a file's
    slot_inode : (ino k : ℕ) → (unwrap_or (put_at (layout image) targets (moved_data image addresses) (cond (is_inode image ino) (tree_slot image ino k) 0)) (cond (is_inode image ino) (tree_slot image ino k) 0) ≡ 0 → ⊥) → is_inode image ino ≡ true
    slot_inode ino k away = go (is_inode image ino) refl
      where
        go : (i : Bool) → is_inode image ino ≡ i → is_inode image ino ≡ true
        go true inode = inode
        go false none =
            let hole : cond (is_inode other ino) (tree_slot other ino k) 0 ≡ 0 = ap (λ i. cond i (tree_slot other ino k) 0) (reads.same_inode ino ∙ none) in
            absurd (away (sym (slot_placed ino k) ∙ hole))

    -- the placement of the other image is that of this one after the batch
    pub placed : AreSamePlaces (moved_batch (layout image) (nid_limit (layout image)) addresses targets (placement image)) (placement other)
    unfolding moved_batch placement
    placed = record {
      nodes = node_placed;
      slots = slot_placed;
      extents = extent_placed;
      holders = λ ino k away. holder_placed ino k (slot_inode ino k away);
    }
