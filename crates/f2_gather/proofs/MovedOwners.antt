-- What a valid block of a checked image is: the block of one file, or one node.
use Rattle.std.proofs.Common.{◌≡◌, ℕ, ◌+◌, ◌^◌, ◌<◌, ◌≤◌, Bool, true, false, ◌||◌, ◌==◌, cond, sum_by, Option, Some, None, refl, sym, ap, subst, ◌∙◌, ⊎_elim, arith}
use Rattle.std.specs.Prelude.{option_and_then, unwrap_or}
use Rattle.std.specs.Option.{option_map_or}
use Rattle.std.specs.List.{list_any}
use Rattle.std.proofs.lemmas.Bool.{eqb-true, eq-eqb, ltb-true, lt-ltb, false≢true, false_from_ne_true, cases_order}
use Rattle.f2_bytes.specs.Bytes.{Block, Image, block_at, numbers_below, count_below}
use Rattle.f2_bytes.specs.Superblock.{layout, is_main, IsInOrder}
use Rattle.f2_bytes.specs.Journal.{NatEntry}
use Rattle.f2_bytes.specs.Node.{most_blocks, has_slots, locate, address_count, word_in, word_at_spot, slot_in}
use Rattle.f2_bytes.specs.NodeAddressTable.{nid_limit, nat, image_nat_entry, is_live}
use Rattle.f2_bytes.specs.Summary.{summary}
use Rattle.f2_bytes.specs.Tree.{read_node, node_within, tree_node, nid_slot, tree_slot, is_inode}
use Rattle.f2_bytes.specs.Check.{is_checked_body, slots_with, nodes_with, is_data, is_node, is_marked, slot_with, nid_with, nid_of_spot, spot_of}
use Rattle.f2_bytes.proofs.CheckedNodes.{nat-below, read_node-checked}
use Rattle.f2_bytes.proofs.CheckedPlaces.{offset_limit-value, slot_offset, offset_says}
use Rattle.f2_bytes.proofs.Finds.{find-least}
use Rattle.f2_bytes.proofs.Located.{locate_below}
use Rattle.f2_bytes.proofs.Terms.{term_below, counted_some}
use Rattle.f2_bytes.proofs.TreeNodes.{read_node-zero, tree_node-nid_slot}
use Rattle.f2_gather.proofs.BlockPlaces.{find_only, find_absent, places, place_there, place_found, All-places}
use Rattle.f2_gather.proofs.BlockSums.{summed, summed_both, counted, counted_twice, sum_by-filter}
use Rattle.f2_gather.proofs.MovedRules.{InMain, in_main, had_once, one_node, owned, summary_names}

-- the block at an address is this one of a file, and no other block and no node
pub record DataAt (image : Image) (a : ℕ) : Type 0 where
  pub ino : ℕ
  pub k : ℕ
  pub low : ino < nid_limit (layout image)
  pub within : k < most_blocks
  pub inode : is_inode image ino ≡ true
  pub at : tree_slot image ino k ≡ a
  pub nid : (summary image a).nid ≡ nid_of_spot image (ino, k)
  pub only : (j m : ℕ) → is_inode image j ≡ true → j < nid_limit (layout image) → m < most_blocks → tree_slot image j m ≡ a → (j ≡ ino) × (m ≡ k)
  pub no_node : nodes_with image a ≡ 0

-- a node stands at an address
pub record NodeAt (image : Image) (a : ℕ) : Type 0 where
  pub nid : ℕ
  pub entry : NatEntry
  pub is : nat image nid ≡ Some entry
  pub at : entry.address ≡ a
  pub says : (summary image a).nid ≡ nid

-- the node that holds the address of a block of a file
pub record HolderOf (image : Image) (ino k : ℕ) : Type 0 where
  pub entry : NatEntry
  pub is : nat image (nid_of_spot image (ino, k)) ≡ Some entry
  pub file : entry.ino ≡ ino

-- the entry that the table has of a node
pub entry_is : (image : Image) (nid : ℕ) (e : NatEntry) → nat image nid ≡ Some e → image_nat_entry image nid ≡ e
unfolding nat
entry_is image nid e is = go (is_live (layout image) nid (image_nat_entry image nid)) is
  where
    some_is : (x y : NatEntry) → Some x ≡ Some y → x ≡ y
    some_is x y same = ap (λ (o : Option NatEntry). elim o [ Some z ↦ z | None ↦ x ]) same

    go : (b : Bool) → cond b (Some (image_nat_entry image nid)) None ≡ Some e → image_nat_entry image nid ≡ e
    go true same = some_is (image_nat_entry image nid) e same
    go false same = absurd (cc same)

module _ (image : Image) (h : is_checked_body image ≡ true) where
  slots_in : ℕ → ℕ → ℕ
  slots_in address ino = cond (is_inode image ino) (count_below most_blocks (λ k. tree_slot image ino k == address)) 0

  slots_with-sum : (address : ℕ) → slots_with image address ≡ sum_by (slots_in address) (numbers_below (nid_limit (layout image)))
  unfolding slots_with slots_in
  slots_with-sum address = sum_by-filter (λ ino. count_below most_blocks (λ k. tree_slot image ino k == address)) (is_inode image) (numbers_below (nid_limit (layout image)))

  slots_in-inode : (address ino : ℕ) → is_inode image ino ≡ true → slots_in address ino ≡ count_below most_blocks (λ k. tree_slot image ino k == address)
  unfolding slots_in
  slots_in-inode address ino inode = rw inode refl

  slot_counted : (address ino k : ℕ) → is_inode image ino ≡ true → k < most_blocks → tree_slot image ino k ≡ address → 1 ≤ slots_in address ino
  slot_counted address ino k inode within at =
      let e = slots_in-inode address ino inode in
      let c = counted (λ m. tree_slot image ino m == address) most_blocks k within (eq-eqb (tree_slot image ino k) address at) in
      omega (arith, e, c)

  -- the slot of a file is counted
  slot_some : (address ino k : ℕ) → ino < nid_limit (layout image) → is_inode image ino ≡ true → k < most_blocks → tree_slot image ino k ≡ address → 1 ≤ slots_with image address
  slot_some address ino k low inode within at =
      let sum = slots_with-sum address in
      let one = slot_counted address ino k inode within at in
      let part = summed (slots_in address) (nid_limit (layout image)) ino low in
      omega (arith, sum, one, part)

  -- where an address is had once, its slot is the only one
  alone : (address ino k j m : ℕ) → slots_with image address ≤ 1 → is_inode image ino ≡ true → is_inode image j ≡ true
      → ino < nid_limit (layout image) → j < nid_limit (layout image) → k < most_blocks → m < most_blocks
      → tree_slot image ino k ≡ address → tree_slot image j m ≡ address → (j ≡ ino) × (m ≡ k)
  alone address ino k j m once inode inode_j below below_j within within_m at at_j =
      let limit = nid_limit (layout image) in
      let sum = slots_with-sum address in
      let one = slot_counted address ino k inode within at in
      let other = slot_counted address j m inode_j within_m at_j in
      ⊎_elim (λ same. (same, in_file same))
      (λ apart. absurd (⊎_elim
      (λ before. let both = summed_both (slots_in address) limit j ino before below in omega (arith, sum, one, other, both, once))
      (λ after. let both = summed_both (slots_in address) limit ino j after below_j in omega (arith, sum, one, other, both, once)) apart))
      (cases_order j ino)
    where
      in_file : j ≡ ino → m ≡ k
      in_file same =
          let test = λ (x : ℕ). tree_slot image ino x == address in
          let here : test k ≡ true = eq-eqb (tree_slot image ino k) address at in
          let there : test m ≡ true = eq-eqb (tree_slot image ino m) address (sym (ap (λ x. tree_slot image x m) same) ∙ at_j) in
          let sum = slots_with-sum address in
          let part = summed (slots_in address) (nid_limit (layout image)) ino below in
          let e = slots_in-inode address ino inode in
          ⊎_elim (λ equal. equal)
          (λ apart. absurd (⊎_elim
          (λ before. let both = counted_twice test most_blocks m k before within there here in omega (arith, sum, part, e, both, once))
          (λ after. let both = counted_twice test most_blocks k m after within_m here there in omega (arith, sum, part, e, both, once)) apart))
          (cases_order m k)

  -- some slot has the address of data
  slot_of_data : (a : ℕ) → is_data image a ≡ true → (ino : ℕ) × (k : ℕ) × (ino < nid_limit (layout image)) × (is_inode image ino ≡ true) × (k < most_blocks) × (tree_slot image ino k ≡ a)
  unfolding slots_with
  slot_of_data a is =
      let some : 1 ≤ slots_with image a = let low = ltb-true 0 (slots_with image a) is in omega (arith, low) in
      let file = term_below (λ ino. count_below most_blocks (λ k. tree_slot image ino k == a)) (is_inode image) (nid_limit (layout image)) some in
      let block = counted_some (λ k. tree_slot image file.0 k == a) most_blocks file.3 in
      (file.0, block.0, file.1, file.2, block.1, eqb-true (tree_slot image file.0 block.0) a block.2)

  pub data_by_slot : (a ino k : ℕ) → ino < nid_limit (layout image) → is_inode image ino ≡ true → k < most_blocks → tree_slot image ino k ≡ a → is_data image a ≡ true
  data_by_slot a ino k low inode within at = let some = slot_some a ino k low inode within at in lt-ltb 0 (slots_with image a) (omega (arith, some))

  -- a node's address is counted
  pub node_counted : (nid : ℕ) (e : NatEntry) → nat image nid ≡ Some e → 1 ≤ nodes_with image e.address
  unfolding nodes_with
  node_counted nid e is =
      counted (λ n. option_map_or (λ (x : NatEntry). x.address == e.address) (nat image n) false) (nid_limit (layout image)) nid (nat-below image nid e is)
      (rw is (eq-eqb e.address e.address refl))

  -- ---- the holder of an address

  module _ (ino k : ℕ) (low : ino < nid_limit (layout image)) (inode : is_inode image ino ≡ true) (some : tree_slot image ino k ≡ 0 → ⊥) where
    file_entry : (e : NatEntry) × (nat image ino ≡ Some e) × (e.ino ≡ ino)
    unfolding is_inode
    file_entry = go (nat image ino) refl
      where
        go : (o : Option NatEntry) → nat image ino ≡ o → (e : NatEntry) × (nat image ino ≡ Some e) × (e.ino ≡ ino)
        go None e =
            let no : false ≡ true = rw e at inode in
            absurd (false≢true no)
        go (Some entry) e =
            let own : (entry.ino == ino) ≡ true = rw e at inode in
            (entry, e, eqb-true entry.ino ino own)

    pub holder_of : HolderOf image ino k
    unfolding tree_slot node_within
    holder_of = by_slots (has_slots b) refl
      where
        b : Block
        b = block_at image file_entry.0.address

        read : read_node image ino ≡ Some b
        read = read_node-checked image h ino file_entry.0 file_entry.1

        value : tree_slot image ino k ≡ cond (has_slots b) (word_at_spot (tree_node image ino) (locate k (address_count b))) 0
        value = ap (λ o. slot_in (tree_node image ino) o k) read

        spots : (o : Option (ℕ × ℕ)) → locate k (address_count b) ≡ o → spot_of image (ino, k) ≡ unwrap_or o (0, 0)
        spots o is = ap (λ (n : Option Block). unwrap_or (option_and_then (λ (x : Block). locate k (address_count x)) n) (0, 0)) read ∙ ap (λ (n : Option (ℕ × ℕ)). unwrap_or n (0, 0)) is

        at_spot : (spot : ℕ × ℕ) → has_slots b ≡ true → locate k (address_count b) ≡ Some spot → HolderOf image ino k
        at_spot spot slots is = by_offset (spot.0 == 0) refl
          where
            here : nid_of_spot image (ino, k) ≡ cond (spot.0 == 0) ino (nid_slot image ino spot.0)
            here = ap (λ (s : ℕ × ℕ). cond (s.0 == 0) ino (nid_slot image ino s.0)) (spots (Some spot) is)

            word : tree_slot image ino k ≡ word_in spot (tree_node image ino spot.0)
            word = value ∙ ap (λ f. cond f (word_at_spot (tree_node image ino) (locate k (address_count b))) 0) slots ∙ ap (word_at_spot (tree_node image ino)) is

            by_offset : (z : Bool) → (spot.0 == 0) ≡ z → HolderOf image ino k
            by_offset true z =
                let own : nid_of_spot image (ino, k) ≡ ino = here ∙ ap (λ c. cond c ino (nid_slot image ino spot.0)) z in
                record { entry = file_entry.0; is = ap (nat image) own ∙ file_entry.1; file = file_entry.2 }
            by_offset false z = by_nid (nid == 0) refl
              where
                nid : ℕ
                nid = nid_slot image ino spot.0

                away : spot.0 ≡ 0 → ⊥
                away e = false≢true (sym z ∙ eq-eqb spot.0 0 e)

                own : nid_of_spot image (ino, k) ≡ nid
                own = here ∙ ap (λ c. cond c ino nid) z

                named : tree_node image ino spot.0 ≡ read_node image nid
                named = tree_node-nid_slot image ino spot.0 (ap (λ o. option_map_or has_slots o false) read ∙ slots) away

                by_nid : (z : Bool) → (nid == 0) ≡ z → HolderOf image ino k
                by_nid true none = absurd (some (word ∙ ap (word_in spot) (named ∙ ap (read_node image) (eqb-true nid 0 none) ∙ read_node-zero image)))
                by_nid false used =
                    let limit = offset_limit-value in
                    let within = locate_below k (address_count b) spot is in
                    let says = offset_says image h nid ino spot.0 (slot_offset image h ino spot.0 inode low within used) (omega (arith, within, limit)) in
                    record { entry = says.0; is = ap (nat image) own ∙ says.1; file = says.2 }

        by_spot : (o : Option (ℕ × ℕ)) → has_slots b ≡ true → locate k (address_count b) ≡ o → HolderOf image ino k
        by_spot None slots is = absurd (some (value ∙ ap (λ f. cond f (word_at_spot (tree_node image ino) (locate k (address_count b))) 0) slots ∙ ap (word_at_spot (tree_node image ino)) is))
        by_spot (Some spot) slots is = at_spot spot slots is

        by_slots : (f : Bool) → has_slots b ≡ f → HolderOf image ino k
        by_slots false f = absurd (some (value ∙ ap (λ c. cond c (word_at_spot (tree_node image ino) (locate k (address_count b))) 0) f))
        by_slots true f = by_spot (locate k (address_count b)) f refl

  -- ---- one valid block

  module _ (order : IsInOrder (layout image)) (a : ℕ) (main : is_main (layout image) a ≡ true) (marked : is_marked image a ≡ true) where
    there : InMain image a
    there = in_main image a order main

    pub data_at : is_data image a ≡ true → DataAt image a
    unfolding slot_with
    data_at is = record {
      ino = ino;
      k = k;
      low = low;
      within = within;
      inode = inode;
      at = at;
      nid = summary_names image h order a main marked ∙ ap (λ (o : Option (ℕ × ℕ)). option_map_or (nid_of_spot image) o (unwrap_or (nid_with image a) (2 ^ 32))) first;
      only = only;
      no_node = omega (arith, once, found);
    }
      where
        slot : (ino : ℕ) × (k : ℕ) × (ino < nid_limit (layout image)) × (is_inode image ino ≡ true) × (k < most_blocks) × (tree_slot image ino k ≡ a)
        slot = slot_of_data a is

        ino : ℕ
        ino = slot.0

        k : ℕ
        k = slot.1

        low : ino < nid_limit (layout image)
        low = slot.2

        inode : is_inode image ino ≡ true
        inode = slot.3

        within : k < most_blocks
        within = slot.4

        at : tree_slot image ino k ≡ a
        at = slot.5

        once : slots_with image a + nodes_with image a ≡ 1
        once = subst (λ (x : ℕ). slots_with image x + nodes_with image x ≡ 1) at
            (had_once image h ino k low inode within (λ e. there.some (sym at ∙ e)) (let small = there.low in omega (arith, at, small)))

        found : 1 ≤ slots_with image a
        found = slot_some a ino k low inode within at

        only : (j m : ℕ) → is_inode image j ≡ true → j < nid_limit (layout image) → m < most_blocks → tree_slot image j m ≡ a → (j ≡ ino) × (m ≡ k)
        only j m inode_j below within_m at_j = alone a ino k j m (omega (arith, once)) inode inode_j low below within within_m at at_j

        test : ℕ × ℕ → Bool
        test = λ place. tree_slot image place.0 place.1 == a

        first : slot_with image a ≡ Some (ino, k)
        first =
            find_only test (places (nid_limit (layout image)) (is_inode image)) (ino, k)
            (place_there (nid_limit (layout image)) (is_inode image) test ino k low inode within (eq-eqb (tree_slot image ino k) a at))
            (All-places (nid_limit (layout image)) (is_inode image) (λ place. test place ≡ true → place ≡ (ino, k))
            (λ j m below inode_j within_m passes. let is = only j m inode_j below within_m (eqb-true (tree_slot image j m) a passes) in λ i. (is.0 i, is.1 i)))

    pub node_at : is_data image a ≡ false → NodeAt image a
    unfolding slot_with nid_with nodes_with
    node_at other = record {
      nid = n;
      entry = which.0;
      is = which.1;
      at = which.2;
      says =
          summary_names image h order a main marked
          ∙ ap (λ (o : Option (ℕ × ℕ)). option_map_or (nid_of_spot image) o (unwrap_or (nid_with image a) (2 ^ 32))) no_slot
          ∙ ap (λ (o : Option ℕ). unwrap_or o (2 ^ 32)) first;
    }
      where
        limit : ℕ
        limit = nid_limit (layout image)

        test : ℕ → Bool
        test = λ nid. option_map_or (λ (e : NatEntry). e.address == a) (nat image nid) false

        node : is_node image a ≡ true
        node = ap (λ b. b || is_node image a) (sym other) ∙ owned image h order a main marked

        some : 1 ≤ count_below limit test
        some = let above = ltb-true 0 (count_below limit test) node in omega (arith, above)

        found : (nid : ℕ) × (nid < limit) × (test nid ≡ true)
        found = counted_some test limit some

        n : ℕ
        n = found.0

        entry_of : (nid : ℕ) → test nid ≡ true → (e : NatEntry) × (nat image nid ≡ Some e) × (e.address ≡ a)
        entry_of nid passes = go (nat image nid) refl
          where
            go : (o : Option NatEntry) → nat image nid ≡ o → (e : NatEntry) × (nat image nid ≡ Some e) × (e.address ≡ a)
            go None e =
                let no : false ≡ true = rw e at passes in
                absurd (false≢true no)
            go (Some entry) e =
                let at : (entry.address == a) ≡ true = rw e at passes in
                (entry, e, eqb-true entry.address a at)

        which : (e : NatEntry) × (nat image n ≡ Some e) × (e.address ≡ a)
        which = entry_of n found.2

        first : nid_with image a ≡ Some n
        first = find-least test limit n found.1 found.2 (λ m less. false_from_ne_true (test m) (λ passes.
            let too = entry_of m passes in
            let same = one_node image h m n too.0 which.0 too.1 which.1 (too.2 ∙ sym which.2) in
            omega (arith, same, less)))

        p : ℕ × ℕ → Bool
        p = λ place. tree_slot image place.0 place.1 == a

        no_slot : slot_with image a ≡ None
        no_slot = find_absent p (places limit (is_inode image)) (false_from_ne_true (list_any p (places limit (is_inode image))) (λ here.
            let slot = place_found limit (is_inode image) p here in
            false≢true (sym other ∙ data_by_slot a slot.0 slot.1 slot.2 slot.3 slot.4 (eqb-true (tree_slot image slot.0 slot.1) a slot.5))))
