-- The blocks of files that lie in main are in the support, by the nodes after roll-forward.
use Rattle.std.proofs.Common.{◌≡◌, ℕ, ◌<◌, Bool, true, false, ◌==◌, ◌&&◌, Option, Some, None, refl, sym, ap, ◌∙◌, ⊎_elim}
use Rattle.std.specs.Prelude.{find, is_some, option_map, reverse}
use Rattle.std.specs.Option.{option_map_or, option_or}
use Rattle.std.proofs.lemmas.Bool.{and_parts, eqb-true, eq-eqb, ne_eqb, false≢true}
use Rattle.f2_bytes.specs.Bytes.{Block, Image, word, numbers_below}
use Rattle.f2_bytes.specs.Superblock.{super_copy, layout, is_main}
use Rattle.f2_bytes.specs.NodeAddressTable.{nid_limit}
use Rattle.f2_bytes.specs.Node.{footer_nid, footer_ino, node_offset, has_type, has_slots, is_direct, address_count, address_word, locate, word_in, word_at_spot, slot_in}
use Rattle.f2_bytes.specs.RollForward.{NodePlace, chain_length, chain_node, last_in_chain, found_place, node_block}
use Rattle.f2_bytes.specs.SalvagedFiles.{is_file, is_node_at, is_chain_node_at, nid_at, file_node, file_slot}
use Rattle.f2_bytes.specs.Support.{is_support}
use Rattle.f2_bytes.proofs.InSupport.{slot_in_support}
use Rattle.f2_bytes.proofs.SlotSupport.{no_block, moved, word_of_inode, word_of_node}
use Rattle.f2_bytes.proofs.Located.{lands, locate_lands}
use Rattle.f2_bytes.proofs.FrameChain.{find_some}
use Rattle.f2_salvage.proofs.FrameRoll.{found_low}

-- a node has a nid below the limit
pub node_low : (image : Image) (nid : ℕ) (b : Block) → node_block image nid ≡ Some b → nid < nid_limit (layout image)
unfolding node_block
node_low image nid b e = go (found_place image nid) refl
  where
    go : (o : Option NodePlace) → found_place image nid ≡ o → nid < nid_limit (layout image)
    go None is =
        let no : None ≡ Some b = rw is at e in
        absurd (cc no)
    go (Some at) is = found_low image nid at is

-- the inode of a file stands at offset 0
pub file_inode : (image : Image) (ino : ℕ) → is_file image ino ≡ true → (b : Block) × (node_block image ino ≡ Some b) × (node_offset b ≡ 0)
unfolding is_file
file_inode image ino h = go (node_block image ino) refl (and_parts _ _ h).0
  where
    go : (o : Option Block) → node_block image ino ≡ o → option_map_or (λ b. (footer_ino b == ino) && (node_offset b == 0) && has_type b) (node_block image ino) false ≡ true → (b : Block) × (node_block image ino ≡ Some b) × (node_offset b ≡ 0)
    go None e here =
        let no : false ≡ true = rw e at here in
        absurd (false≢true no)
    go (Some b) e here =
        let test : ((footer_ino b == ino) && (node_offset b == 0) && has_type b) ≡ true = rw e at here in
        (b, e, eqb-true (node_offset b) 0 (and_parts _ _ (and_parts _ _ test).0).1)

-- the nid at an offset of a file is that of a node that says so
nid_says : (image : Image) (ino offset nid : ℕ) → (offset == 0) ≡ false → nid_at image ino offset ≡ Some nid → is_node_at image ino offset nid ≡ true
unfolding nid_at
nid_says image ino offset nid away e = go (last_in_chain image (is_chain_node_at image ino offset)) refl (rw away at e)
  where
    go : (o : Option ℕ) → last_in_chain image (is_chain_node_at image ino offset) ≡ o
        → option_or (option_map (λ n. footer_nid (chain_node image n)) (last_in_chain image (is_chain_node_at image ino offset))) (find (is_node_at image ino offset) (numbers_below (nid_limit (layout image)))) ≡ Some nid
        → is_node_at image ino offset nid ≡ true
    go None last found =
        let rest : find (is_node_at image ino offset) (numbers_below (nid_limit (layout image))) ≡ Some nid = rw last at found in
        find_some (is_node_at image ino offset) (numbers_below (nid_limit (layout image))) nid rest
    go (Some n) last found =
        let test = find_some (is_chain_node_at image ino offset) (reverse (numbers_below (chain_length image))) n last in
        let at : Some (footer_nid (chain_node image n)) ≡ Some nid = rw last at found in
        let same_nid : footer_nid (chain_node image n) ≡ nid = ap (λ o. elim o [ Some z ↦ z | None ↦ nid ]) at in
        ap (is_node_at image ino offset) (sym same_nid) ∙ (and_parts _ _ test).1

-- the node at an offset of a file other than 0
node_says_offset : (image : Image) (ino offset : ℕ) (c : Block) → (offset == 0) ≡ false → file_node image ino offset ≡ Some c → (nid : ℕ) × (node_block image nid ≡ Some c) × (node_offset c ≡ offset)
node_says_offset image ino offset c away e = go (nid_at image ino offset) refl
  where
    go : (o : Option ℕ) → nid_at image ino offset ≡ o → (nid : ℕ) × (node_block image nid ≡ Some c) × (node_offset c ≡ offset)
    go None is =
        let no : None ≡ Some c = rw is at e in
        absurd (cc no)
    go (Some nid) is =
        let block : node_block image nid ≡ Some c = rw is at e in
        let says = nid_says image ino offset nid away is in
        let test : ((footer_ino c == ino) && (node_offset c == offset)) ≡ true = rw block at says in
        (nid, block, eqb-true (node_offset c) offset (and_parts _ _ test).1)

module _ (image : Image) (copied : is_some (super_copy image) ≡ true) where
  spot_support : (ino : ℕ) (b : Block) → node_block image ino ≡ Some b → node_offset b ≡ 0 → has_slots b ≡ true → (spot : ℕ × ℕ) → lands (address_count b) spot
      → is_main (layout image) (word_in spot (file_node image ino spot.0)) ≡ true → is_support image (word_in spot (file_node image ino spot.0)) ≡ true
  unfolding nid_at
  spot_support ino b read first slots spot place main = ⊎_elim in_inode in_node place
    where
      goal : Type 0
      goal = is_support image (word_in spot (file_node image ino spot.0)) ≡ true

      in_inode : (spot.0 ≡ 0) × (spot.1 < address_count b) → goal
      in_inode t =
          let node : file_node image ino spot.0 ≡ Some b = ap (file_node image ino) t.0 ∙ read in
          let value : word_in spot (file_node image ino spot.0) ≡ address_word b spot.1 = ap (word_in spot) node ∙ rw (eq-eqb spot.0 0 t.0) refl in
          moved image (word_in spot (file_node image ino spot.0)) (address_word b spot.1) value
          (slot_in_support image ino b (address_word b spot.1) (node_low image ino b read) read (word_of_inode b spot.1 first slots t.1)) main

      in_node : (is_direct spot.0 ≡ true) × (spot.1 < 1018) → goal
      in_node t = by_node (file_node image ino spot.0) refl
        where
          away : spot.0 ≡ 0 → ⊥
          away z =
              let no : false ≡ true = ap is_direct (sym z) ∙ t.0 in
              false≢true no

          by_node : (o : Option Block) → file_node image ino spot.0 ≡ o → goal
          by_node None e = no_block image copied (word_in spot (file_node image ino spot.0)) (ap (word_in spot) e) main
          by_node (Some c) e =
              let says = node_says_offset image ino spot.0 c (ne_eqb spot.0 0 away) e in
              let value : word_in spot (file_node image ino spot.0) ≡ word c spot.1 = ap (word_in spot) e ∙ rw (ne_eqb spot.0 0 away) refl in
              moved image (word_in spot (file_node image ino spot.0)) (word c spot.1) value
              (slot_in_support image says.0 c (word c spot.1) (node_low image says.0 c says.1) says.1
              (word_of_node c spot.1 (λ w. away (sym says.2 ∙ w)) (ap is_direct says.2 ∙ t.0) t.1)) main

  -- the address of a block of a file
  pub file_slot_support : (ino k : ℕ) → is_file image ino ≡ true → is_main (layout image) (file_slot image ino k) ≡ true → is_support image (file_slot image ino k) ≡ true
  unfolding file_slot nid_at
  file_slot_support ino k file =
      let inode = file_inode image ino file in
      by_block inode.0 inode.1 inode.2
    where
      by_block : (b : Block) → node_block image ino ≡ Some b → node_offset b ≡ 0 → is_main (layout image) (file_slot image ino k) ≡ true → is_support image (file_slot image ino k) ≡ true
      by_block b read first = moved image (file_slot image ino k) (slot_in (file_node image ino) (Some b) k) (ap (λ o. slot_in (file_node image ino) o k) read) (by_slots (has_slots b) refl)
        where
          by_slots : (f : Bool) → has_slots b ≡ f → is_main (layout image) (slot_in (file_node image ino) (Some b) k) ≡ true → is_support image (slot_in (file_node image ino) (Some b) k) ≡ true
          by_slots false f = no_block image copied (slot_in (file_node image ino) (Some b) k) (rw f refl)
          by_slots true f = moved image (slot_in (file_node image ino) (Some b) k) (word_at_spot (file_node image ino) (locate k (address_count b))) (rw f refl) (by_spot (locate k (address_count b)) refl)
            where
              by_spot : (o : Option (ℕ × ℕ)) → locate k (address_count b) ≡ o → is_main (layout image) (word_at_spot (file_node image ino) o) ≡ true → is_support image (word_at_spot (file_node image ino) o) ≡ true
              by_spot None l = no_block image copied 0 refl
              by_spot (Some spot) l = spot_support ino b read first f spot (locate_lands k (address_count b) spot l)
