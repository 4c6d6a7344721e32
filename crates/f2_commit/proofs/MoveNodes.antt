-- The nodes that a batch moves are nodes of the table.
use Rattle.std.proofs.Common.{◌≡◌, ℕ, ◌<◌, List, Bool, true, false, ◌==◌, ◌&&◌, nat_lt, nat_le, cond, filter, All, Option, Some, None, refl, sym, ap, ◌∙◌, subst, ⊎_elim, arith}
use Rattle.std.specs.Prelude.{option_map, option_and_then, unwrap_or}
use Rattle.std.specs.Option.{option_map_or}
use Rattle.std.specs.List.{list_any}
use Rattle.std.proofs.lemmas.Bool.{and_parts, or_cases, eq-eqb, eqb-true, ltb-true, false≢true}
use Rattle.std.proofs.lemmas.List.Elements.{All-from_get_or, filter_passes}
use Rattle.f2_bytes.specs.Bytes.{Block, Image, block_at, numbers_below}
use Rattle.f2_bytes.specs.Superblock.{layout, is_main}
use Rattle.f2_bytes.specs.Journal.{NatEntry}
use Rattle.f2_bytes.specs.Node.{has_slots, address_count, locate, word_in, word_at_spot, slot_in}
use Rattle.f2_bytes.specs.NodeAddressTable.{nid_limit, nat}
use Rattle.f2_bytes.specs.Tree.{read_node, node_within, tree_node, nid_slot, tree_slot, is_inode}
use Rattle.f2_bytes.specs.Check.{is_checked, spot_of, nid_of_spot}
use Rattle.f2_bytes.specs.Defragment.{placement, is_among, is_covered, is_moved_node, nodes_among, all_places}
use Rattle.f2_bytes.proofs.CheckedNodes.{read_node-checked}
use Rattle.f2_bytes.proofs.CheckedUsed.{main_range}
use Rattle.f2_bytes.proofs.SlotSupport.{body_checked, inode_entry}
use Rattle.f2_bytes.proofs.TreeNodes.{tree_node-nid_slot}
use Rattle.f2_commit.specs.Moves.{moved_data, moved_nodes}
use Rattle.f2_commit.proofs.MoveAddresses.{found_in, data_used, all_placed, InFile}

pub no_read : (image : Image) (nid : ℕ) → nat image nid ≡ None → read_node image nid ≡ None
unfolding read_node
no_read image nid is = rw is refl

-- what passes among the elements that are kept passes their test
passes_among : (test : ℕ → Bool) (xs : List ℕ) (nid : ℕ) → is_among (filter test xs) nid ≡ true → test nid ≡ true
passes_among test xs nid among =
    let t = found_in (λ y. test y ≡ true) (λ y. y == nid) (filter test xs) (filter_passes test xs) among in
    subst (λ y. test y ≡ true) (eqb-true t.0 nid t.2) t.1

module _ (image : Image) (h : is_checked image ≡ true) where
  -- the node that holds the address of a block is in the table
  pub holder_there : (ino k : ℕ) → is_inode image ino ≡ true → is_main (layout image) (tree_slot image ino k) ≡ true → (e : NatEntry) × (nat image (nid_of_spot image (ino, k)) ≡ Some e)
  unfolding tree_slot node_within
  holder_there ino k inode main = by_first ((spot_of image (ino, k)).0 == 0) refl
    where
      entry : (e : NatEntry) × (nat image ino ≡ Some e)
      entry = inode_entry image h ino inode

      b : Block
      b = block_at image entry.0.address

      read : read_node image ino ≡ Some b
      read = read_node-checked image (body_checked image h) ino entry.0 entry.1

      spot_is : spot_of image (ino, k) ≡ unwrap_or (locate k (address_count b)) (0, 0)
      spot_is = ap (λ o. unwrap_or (option_and_then (λ x. locate k (address_count x)) o) (0, 0)) read

      value : tree_slot image ino k ≡ slot_in (tree_node image ino) (Some b) k
      value = ap (λ o. slot_in (tree_node image ino) o k) read

      no_hole : tree_slot image ino k ≡ 0 → ⊥
      no_hole hole = let low = (main_range image h (tree_slot image ino k) main).0 in omega (arith, low, hole)

      by_entry : (spot : ℕ × ℕ) → locate k (address_count b) ≡ Some spot → has_slots b ≡ true → (spot.0 ≡ 0 → ⊥) → (o : Option NatEntry) → nat image (nid_slot image ino spot.0) ≡ o → (e : NatEntry) × (nat image (nid_slot image ino spot.0) ≡ Some e)
      by_entry spot at slots away (Some e) is = (e, is)
      by_entry spot at slots away None is =
          let named : tree_node image ino spot.0 ≡ read_node image (nid_slot image ino spot.0) = tree_node-nid_slot image ino spot.0 (ap (λ o. option_map_or has_slots o false) read ∙ slots) away in
          let gone : read_node image (nid_slot image ino spot.0) ≡ None = no_read image (nid_slot image ino spot.0) is in
          absurd (no_hole (value ∙ ap (λ f. cond f (word_at_spot (tree_node image ino) (locate k (address_count b))) 0) slots
          ∙ ap (word_at_spot (tree_node image ino)) at ∙ ap (word_in spot) (named ∙ gone)))

      by_spot : (f : Bool) → has_slots b ≡ f → (o : Option (ℕ × ℕ)) → locate k (address_count b) ≡ o → ((spot_of image (ino, k)).0 == 0) ≡ false
          → (e : NatEntry) × (nat image (nid_slot image ino (spot_of image (ino, k)).0) ≡ Some e)
      by_spot false slots o at first = absurd (no_hole (value ∙ ap (λ f. cond f (word_at_spot (tree_node image ino) (locate k (address_count b))) 0) slots))
      by_spot true slots None at first =
          let zero_at : (spot_of image (ino, k)).0 ≡ 0 = ap (λ s. s.0) (spot_is ∙ ap (λ o. unwrap_or o (0, 0)) at) in
          absurd (false≢true (sym first ∙ eq-eqb (spot_of image (ino, k)).0 0 zero_at))
      by_spot true slots (Some spot) at first =
          let same : (spot_of image (ino, k)).0 ≡ spot.0 = ap (λ s. s.0) (spot_is ∙ ap (λ o. unwrap_or o (0, 0)) at) in
          let away : spot.0 ≡ 0 → ⊥ = λ z. false≢true (sym first ∙ eq-eqb (spot_of image (ino, k)).0 0 (same ∙ z)) in
          let t = by_entry spot at slots away (nat image (nid_slot image ino spot.0)) refl in
          (t.0, ap (λ o. nat image (nid_slot image ino o)) same ∙ t.1)

      by_first : (z : Bool) → ((spot_of image (ino, k)).0 == 0) ≡ z → (e : NatEntry) × (nat image (nid_of_spot image (ino, k)) ≡ Some e)
      by_first true z = (entry.0, ap (λ f. nat image (cond f ino (nid_slot image ino (spot_of image (ino, k)).0))) z ∙ entry.1)
      by_first false z =
          let t = by_spot (has_slots b) refl (locate k (address_count b)) refl z in
          (t.0, ap (λ f. nat image (cond f ino (nid_slot image ino (spot_of image (ino, k)).0))) z ∙ t.1)

  module _ (addresses : List ℕ) (mains : All (λ a. is_main (layout image) a ≡ true) addresses) where
    moved_main : All (λ a. is_main (layout image) a ≡ true) (moved_data image addresses)
    moved_main = All-from_get_or (λ a. is_main (layout image) a ≡ true) (moved_data image addresses) 0 (λ i low. (data_used image h addresses mains i low).0)

    by_node : (nid : ℕ) → option_map_or (is_among addresses) (option_map (λ e. e.address) (nat image nid)) false ≡ true → (e : NatEntry) × (nat image nid ≡ Some e)
    by_node nid passes = go (nat image nid) refl
      where
        go : (o : Option NatEntry) → nat image nid ≡ o → (e : NatEntry) × (nat image nid ≡ Some e)
        go (Some e) is = (e, is)
        go None is =
            let no : false ≡ true = rw is at passes in
            absurd (false≢true no)

    holds : ℕ → ℕ × ℕ → Bool
    holds nid place = is_among (moved_data image addresses) (cond (is_inode image place.0) (tree_slot image place.0 place.1) 0) && (nid_of_spot image (place.0, place.1) == nid)

    by_holder : (nid : ℕ) → list_any (holds nid) (all_places (nid_limit (layout image))) ≡ true → (e : NatEntry) × (nat image nid ≡ Some e)
    unfolding holds
    by_holder nid any =
        let found = found_in InFile (holds nid) (all_places (nid_limit (layout image))) (all_placed (nid_limit (layout image))) any in
        let parts = and_parts _ _ found.2 in
        go found.0 (is_inode image found.0.0) refl parts.0 (eqb-true _ nid parts.1)
      where
        go : (place : ℕ × ℕ) (i : Bool) → is_inode image place.0 ≡ i → is_among (moved_data image addresses) (cond (is_inode image place.0) (tree_slot image place.0 place.1) 0) ≡ true
            → nid_of_spot image (place.0, place.1) ≡ nid → (e : NatEntry) × (nat image nid ≡ Some e)
        go place i inode among holder = by_inode i inode (subst (λ a. is_main (layout image) a ≡ true) (eqb-true t.0 slot t.2) t.1)
          where
            slot : ℕ
            slot = cond (is_inode image place.0) (tree_slot image place.0 place.1) 0

            t : (a : ℕ) × (is_main (layout image) a ≡ true) × ((a == slot) ≡ true)
            t = found_in (λ a. is_main (layout image) a ≡ true) (λ a. a == slot) (moved_data image addresses) moved_main among

            by_inode : (i : Bool) → is_inode image place.0 ≡ i → is_main (layout image) slot ≡ true → (e : NatEntry) × (nat image nid ≡ Some e)
            by_inode false none main =
                let hole : slot ≡ 0 = ap (λ f. cond f (tree_slot image place.0 place.1) 0) none in
                let low = (main_range image h slot main).0 in
                absurd (omega (arith, hole, low))
            by_inode true inode main =
                let here : slot ≡ tree_slot image place.0 place.1 = ap (λ f. cond f (tree_slot image place.0 place.1) 0) inode in
                let e = holder_there place.0 place.1 inode (sym (ap (is_main (layout image)) here) ∙ main) in
                (e.0, sym (ap (nat image) holder) ∙ e.1)

    by_extent : (nid : ℕ) (extent : ℕ × ℕ) → list_any (is_covered (cond (is_inode image nid) extent (0, 0))) (moved_data image addresses) ≡ true → (e : NatEntry) × (nat image nid ≡ Some e)
    by_extent nid extent any = go (is_inode image nid) refl
      where
        go : (i : Bool) → is_inode image nid ≡ i → (e : NatEntry) × (nat image nid ≡ Some e)
        go true inode = inode_entry image h nid inode
        go false none =
            let covered : list_any (is_covered (0, 0)) (moved_data image addresses) ≡ true = sym (ap (λ f. list_any (is_covered (cond f extent (0, 0))) (moved_data image addresses)) none) ∙ any in
            let t = found_in (λ a. is_main (layout image) a ≡ true) (is_covered (0, 0)) (moved_data image addresses) moved_main covered in
            let below : t.0 < 0 = ltb-true t.0 0 (and_parts (nat_le 0 t.0) (nat_lt t.0 0) t.2).1 in
            absurd (omega (arith, below))

    -- each node that moves is one of the table
    pub moved_there : (nid : ℕ) → is_among (moved_nodes image addresses) nid ≡ true → (e : NatEntry) × (nat image nid ≡ Some e)
    unfolding nodes_among placement holds
    moved_there nid among =
        let passes = passes_among (is_moved_node (nid_limit (layout image)) (placement image) addresses (moved_data image addresses)) (numbers_below (nid_limit (layout image))) nid among in
        ⊎_elim (λ one. ⊎_elim (by_node nid) (by_holder nid) (or_cases _ _ one)) (by_extent nid _) (or_cases _ _ passes)
