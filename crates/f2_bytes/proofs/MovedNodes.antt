-- The nodes, nid slots and slots that are read of a checked image after blocks moved.
use Rattle.std.proofs.Common.{◌≡◌, inl, inr, ℕ, zero, suc, ◌+◌, ◌/◌, ◌<◌, Bool, true, false, ◌==◌, ◌&&◌, ◌||◌, cond, Option, Some, None, subst, refl, sym, ap, ◌∙◌, arith}
use Rattle.std.specs.Prelude.{option_and_then, option_map, unwrap_or, is_some}
use Rattle.std.specs.Option.{option_map_or}
use Rattle.std.proofs.lemmas.Bool.{and_parts, eq-eqb, ne_eqb, false≢true}
use Rattle.f2_bytes.specs.Bytes.{Block, Image, block_at, word}
use Rattle.f2_bytes.specs.Superblock.{passes, super_copy, super_bytes, copy_of, layout, layout_of, is_main}
use Rattle.f2_bytes.specs.Journal.{NatEntry}
use Rattle.f2_bytes.specs.NodeAddressTable.{nat}
use Rattle.f2_bytes.specs.Node.{parent_of, node_offset, has_slots, is_direct, is_directory, address_count, child_address}
use Rattle.f2_bytes.specs.Tree.{read_node, nid_in, node_within, has_nid_slots, is_inode}
use Rattle.f2_bytes.specs.Check.{is_data, is_node, is_checked, inode_of, directory_of, offset_of_node, none_value}
use Rattle.f2_bytes.specs.Moved.{is_used, moved_entry, IsMovedNode, IsMoved}
use Rattle.f2_bytes.proofs.CheckedNodes.{read_node-checked}
use Rattle.f2_bytes.proofs.CheckedUsed.{entry_node, entry_in_main}
use Rattle.f2_bytes.proofs.Located.{lands}
use Rattle.f2_bytes.proofs.MovedInodes.{inode_moved}
use Rattle.f2_bytes.proofs.MovedReads.{IsMovedInode}
use Rattle.f2_bytes.proofs.MovedWords.{address_count-most, inode_high, inode_slot, node_slot, node_kept, node_offset-moved}
use Rattle.f2_bytes.proofs.NodeOffsets.{HoldsNids, parent_holds, inode_zero, within_offset}
use Rattle.f2_bytes.proofs.Pairs.{Paired, paired_none, paired_some, paired_cond, paired_or, paired_then}
use Rattle.f2_bytes.proofs.SlotSupport.{body_checked, readable_loads, inode_entry}

-- ---- the words that lead on

-- a nid stays
pub nid_in-moved : (to : ℕ → ℕ) (b c : Block) (spot : ℕ × ℕ) → IsMovedNode to b c → node_offset b ≡ spot.0 → HoldsNids spot → nid_in spot c ≡ nid_in spot b
nid_in-moved to b c spot m at (inl t) =
    let zero_at : node_offset b ≡ 0 = at ∙ t.0 in
    let most = address_count-most b in
    let low = t.1 in
    let here : (spot.0 == 0) ≡ true = eq-eqb spot.0 0 t.0 in
    let same : word c (1013 + spot.1) ≡ word b (1013 + spot.1) = m.words (1013 + spot.1) (omega (arith, low)) ∙ inode_high to b (1013 + spot.1) zero_at (omega (arith, most)) in
    rw here same
nid_in-moved to b c spot m at (inr t) =
    let low = t.2 in
    let here : (spot.0 == 0) ≡ false = ne_eqb spot.0 0 t.0 in
    let same : word c spot.1 ≡ word b spot.1 = m.words spot.1 (omega (arith, low)) ∙ node_kept to b spot.1 (λ e. t.0 (sym at ∙ e)) (ap is_direct at ∙ t.1) in
    rw here same

-- an address follows
pub address-moved : (to : ℕ → ℕ) (b c : Block) (n : ℕ) (spot : ℕ × ℕ) → IsMovedNode to b c → node_offset b ≡ spot.0 → (spot.0 ≡ 0 → (has_slots b ≡ true) × (n ≡ address_count b)) → lands n spot
    → child_address spot.0 c spot.1 ≡ to (child_address spot.0 b spot.1)
address-moved to b c n spot m at own (inl t) =
    let zero_at : node_offset b ≡ 0 = at ∙ t.0 in
    let most = address_count-most b in
    let mine = own t.0 in
    let count = mine.1 in
    let low = t.1 in
    let here : (spot.0 == 0) ≡ true = eq-eqb spot.0 0 t.0 in
    let same : word c (90 + spot.1) ≡ to (word b (90 + spot.1)) = m.words (90 + spot.1) (omega (arith, low, most, count)) ∙ inode_slot to b (90 + spot.1) zero_at mine.0 (omega arith) (omega (arith, low, count)) in
    rw here same
address-moved to b c n spot m at own (inr t) =
    let low = t.1 in
    let away : spot.0 ≡ 0 → ⊥ = λ z. false≢true (ap is_direct (sym z) ∙ t.0) in
    let here : (spot.0 == 0) ≡ false = ne_eqb spot.0 0 away in
    let same : word c spot.1 ≡ to (word b spot.1) = m.words spot.1 (omega (arith, low)) ∙ node_slot to b spot.1 (λ e. away (sym at ∙ e)) (ap is_direct at ∙ t.0) low in
    rw here same

module _ (to : ℕ → ℕ) (image other : Image) (h : is_checked image ≡ true) (m : IsMoved to image other) where
  -- ---- the layout

  pub copied : is_some (super_copy image) ≡ true
  copied = (and_parts _ _ (and_parts _ _ (and_parts _ _ (readable_loads image h)).0).0).0

  pub same_super_copy : super_copy other ≡ super_copy image
  same_super_copy = rw (m.copies 0 (omega arith), m.copies 1 (omega arith)) refl

  pub same_super_bytes : super_bytes other ≡ super_bytes image
  same_super_bytes = ap (λ o. copy_of (block_at other (unwrap_or o 0))) same_super_copy ∙ ap copy_of (go (passes (block_at image 0)) refl (passes (block_at image 1)) refl)
    where
      go : (a : Bool) → passes (block_at image 0) ≡ a → (b : Bool) → passes (block_at image 1) ≡ b → block_at other (unwrap_or (super_copy image) 0) ≡ block_at image (unwrap_or (super_copy image) 0)
      go true a b c = rw a (m.copies 0 (omega arith))
      go false a true b = rw (a, b) (m.copies 1 (omega arith))
      go false a false b =
          let no : false ≡ true = rw (a, b) at copied in
          absurd (false≢true no)

  pub layout-moved : layout other ≡ layout image
  unfolding layout
  layout-moved = ap layout_of same_super_bytes

  -- ---- the nodes

  -- where a node goes
  used_entry : (nid : ℕ) (e : NatEntry) → nat image nid ≡ Some e → is_used image e.address ≡ true
  used_entry nid e is = both_from (is_main (layout image) e.address) (is_data image e.address) (is_node image e.address) (entry_in_main image h nid e is) (entry_node image h nid e is)
    where
      both_from : (a b c : Bool) → a ≡ true → c ≡ true → (a && (b || c)) ≡ true
      both_from a true c p q = rw p refl
      both_from a false c p q = rw (p, q) refl

  pub entry_lands : (nid : ℕ) (e : NatEntry) → nat image nid ≡ Some e → is_main (layout other) (to e.address) ≡ true
  entry_lands nid e is = ap (λ l. is_main l (to e.address)) layout-moved ∙ m.lands e.address (used_entry nid e is)

  pub nodes-moved : (nid : ℕ) → Paired (IsMovedNode to) (read_node image nid) (read_node other nid)
  unfolding read_node
  nodes-moved nid = go (nat image nid) refl
    where
      go : (o : Option NatEntry) → nat image nid ≡ o → Paired (IsMovedNode to) (read_node image nid) (read_node other nid)
      go None is =
          let there : nat other nid ≡ None = m.table nid ∙ ap (option_map (moved_entry to)) is in
          rw (is, there) (paired_none (IsMovedNode to))
      go (Some e) is =
          let there : nat other nid ≡ Some (moved_entry to e) = m.table nid ∙ ap (option_map (moved_entry to)) is in
          let node = m.nodes nid (block_at image e.address) e.address (ap (option_map (λ x. x.address)) is) refl in
          rw (is, there, entry_in_main image h nid e is, entry_lands nid e is) (paired_some (IsMovedNode to) (block_at image e.address) (block_at other (to e.address)) node)

  pub same_inode : (nid : ℕ) → is_inode other nid ≡ is_inode image nid
  unfolding is_inode
  same_inode nid = ap (λ o. option_map_or (λ e. e.ino == nid) o false) (m.table nid) ∙ go (nat image nid)
    where
      go : (o : Option NatEntry) → option_map_or (λ e. e.ino == nid) (option_map (moved_entry to) o) false ≡ option_map_or (λ e. e.ino == nid) o false
      go None = refl
      go (Some e) = refl

  -- the node of an inode
  pub inode-moved : (ino : ℕ) → is_inode image ino ≡ true → (b : Block) × (c : Block) × (read_node image ino ≡ Some b) × (read_node other ino ≡ Some c) × IsMovedInode to b c
  inode-moved ino inode =
      let entry = inode_entry image h ino inode in
      let b = block_at image entry.0.address in
      let is = read_node-checked image (body_checked image h) ino entry.0 entry.1 in
      let t = (nodes-moved ino).some b is in
      (b, t.0, is, t.1, inode_moved to b t.0 t.2 (inode_zero image h ino inode b is))

  pub inodes-moved : (nid : ℕ) → Paired (IsMovedInode to) (inode_of image nid) (inode_of other nid)
  inodes-moved nid = subst (λ i. Paired (IsMovedInode to) (inode_of image nid) (cond i (read_node other nid) None)) (sym (same_inode nid)) (go (is_inode image nid) refl)
    where
      go : (i : Bool) → is_inode image nid ≡ i → Paired (IsMovedInode to) (cond (is_inode image nid) (read_node image nid) None) (cond (is_inode image nid) (read_node other nid) None)
      go false e = rw e (paired_none (IsMovedInode to))
      go true e =
          let t = inode-moved nid e in
          rw (e, t.2, t.3) (paired_some (IsMovedInode to) t.0 t.1 t.4)

  pub directories-moved : (nid : ℕ) → Paired (IsMovedInode to) (directory_of image nid) (directory_of other nid)
  directories-moved nid =
      paired_then (IsMovedInode to) (IsMovedInode to) (inode_of image nid) (inode_of other nid) (λ b. cond (is_directory b) (Some b) None) (λ b. cond (is_directory b) (Some b) None) (inodes-moved nid)
      (λ b c is r.
      let same : is_directory c ≡ is_directory b = ap (λ x. x / 4096 == 4) r.same_mode in
      subst (λ d. Paired (IsMovedInode to) (cond (is_directory b) (Some b) None) (cond d (Some c) None)) (sym same)
      (paired_cond (IsMovedInode to) (is_directory b) (Some b) None (Some c) None (paired_some (IsMovedInode to) b c r) (paired_none (IsMovedInode to))))

  pub same_offset : (nid ino : ℕ) → offset_of_node other nid ino ≡ offset_of_node image nid ino
  unfolding offset_of_node
  same_offset nid ino =
      let own : option_map_or (λ e. e.ino == ino) (nat other nid) false ≡ option_map_or (λ e. e.ino == ino) (nat image nid) false = ap (λ o. option_map_or (λ e. e.ino == ino) o false) (m.table nid) ∙ by_entry (nat image nid) in
      let offset : option_map_or node_offset (read_node other nid) none_value ≡ option_map_or node_offset (read_node image nid) none_value
      = paired_or (IsMovedNode to) (read_node image nid) (read_node other nid) node_offset node_offset none_value (nodes-moved nid) (λ b c is r. node_offset-moved to b c r) in
      λ i. cond (own i) (offset i) none_value
    where
      by_entry : (o : Option NatEntry) → option_map_or (λ e. e.ino == ino) (option_map (moved_entry to) o) false ≡ option_map_or (λ e. e.ino == ino) o false
      by_entry None = refl
      by_entry (Some e) = refl

  -- ---- the nodes of a file

  module _ (ino : ℕ) (inode : is_inode image ino ≡ true) (slots : has_nid_slots image ino ≡ true) where
    pub within-moved : (n o : ℕ) → n < 4 → Paired (IsMovedNode to) (node_within n image ino o) (node_within n other ino o)
    unfolding node_within
    within-moved zero o low = paired_cond (IsMovedNode to) (o == 0) (read_node image ino) None (read_node other ino) None (nodes-moved ino) (paired_none (IsMovedNode to))
    within-moved (suc n) o low =
        paired_cond (IsMovedNode to) (o == 0) (read_node image ino) _ (read_node other ino) _ (nodes-moved ino) (below (parent_of o) refl (λ k. within-moved n k (omega (arith, low))))
      where
        below : (p : Option (ℕ × ℕ)) → parent_of o ≡ p → ((k : ℕ) → Paired (IsMovedNode to) (node_within n image ino k) (node_within n other ino k))
            → Paired (IsMovedNode to) (option_and_then (λ spot. option_and_then (λ above. read_node image (nid_in spot above)) (node_within n image ino spot.0)) p)
            (option_and_then (λ spot. option_and_then (λ above. read_node other (nid_in spot above)) (node_within n other ino spot.0)) p)
        below None e more = paired_none (IsMovedNode to)
        below (Some spot) e more =
            paired_then (IsMovedNode to) (IsMovedNode to) (node_within n image ino spot.0) (node_within n other ino spot.0) (λ above. read_node image (nid_in spot above)) (λ above. read_node other (nid_in spot above)) (more spot.0)
            (λ b c is r.
            let same : nid_in spot c ≡ nid_in spot b = nid_in-moved to b c spot r (within_offset image h ino inode slots n spot.0 b (omega (arith, low)) is) (parent_holds o spot e) in
            subst (λ nid. Paired (IsMovedNode to) (read_node image (nid_in spot b)) (read_node other nid)) (sym same) (nodes-moved (nid_in spot b)))
