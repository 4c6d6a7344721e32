-- A checked image whose blocks moved has the same tree, and its directories the same items.
use Rattle.std.proofs.Common.{◌≡◌, ℕ, zero, suc, ◌+◌, ◌-◌, ◌*◌, ◌/◌, [], Bool, true, false, ◌==◌, ◌&&◌, nat_lt, not, cond, filter, Option, Some, None, sum_by, refl, sym, ap, ◌∙◌, arith}
use Rattle.std.specs.Prelude.{option_and_then, option_map, find, is_some, count_by, unwrap_or, flat_map}
use Rattle.std.specs.Option.{option_map_or}
use Rattle.std.specs.List.{list_any}
use Rattle.std.proofs.lemmas.Bool.{eqb-true, not-false, false≢true}
use Rattle.f2_bytes.specs.Bytes.{Block, Image, numbers_below, bytes_at, block_at}
use Rattle.f2_bytes.specs.NodeAddressTable.{nid_limit}
use Rattle.f2_bytes.specs.Node.{type_of_mode, is_inline, is_direct, xattr_nid, node_offset, address_count, block_limit, inline_length, inline_area, attribute_offset, offset_limit}
use Rattle.f2_bytes.specs.Directory.{directory_items, scan, inline_slots, optional_block_items}
use Rattle.f2_bytes.specs.Object.{hole, reserved, stored, gives_name, is_name}
use Rattle.f2_bytes.specs.Tree.{main_block, read_node, tree_slot, piece_at, tree_items, tree_object, is_inode, tree}
use Rattle.f2_bytes.specs.Check.{is_checked, inode_of, directory_of, offset_of_node, attribute_parts, names_in, names_for, name_count, least_parent, least_ancestor, is_least_ancestor, defects}
use Rattle.f2_bytes.proofs.CheckLaws.{none_fails}
use Rattle.f2_bytes.proofs.CheckedChain.{rule_met, part_clear}
use Rattle.f2_bytes.proofs.CheckedNodes.{no_part, read_node-checked}
use Rattle.f2_bytes.proofs.CheckedPlaces.{offset_says}
use Rattle.f2_bytes.proofs.CheckedUsed.{inode_below}
use Rattle.f2_bytes.proofs.MovedInodes.{content_moved}
use Rattle.f2_bytes.proofs.MovedReads.{IsMovedInode, ReadsMoved}
use Rattle.f2_bytes.proofs.MovedWords.{node_agrees}
use Rattle.f2_bytes.proofs.PackReads.{cond_same}
use Rattle.f2_bytes.proofs.Pairs.{paired_is_some}
use Rattle.f2_bytes.proofs.SameBytes.{narrow, bytes_same}
use Rattle.f2_bytes.proofs.SlotSupport.{body_checked}
use Rattle.f2_bytes.proofs.TreeNodes.{read_node-zero}

attribute_indirect : is_direct attribute_offset ≡ false
unfolding offset_limit
attribute_indirect = refl

module _ (to : ℕ → ℕ) (image other : Image) (h : is_checked image ≡ true) (r : ReadsMoved to image other) where
  -- ---- items

  -- the items of an inode, by its fields
  items-moved : (b c : Block) (block moved : ℕ → Option Block) → IsMovedInode to b c → ((k : ℕ) → moved k ≡ block k) → directory_items c moved ≡ directory_items b block
  unfolding directory_items
  items-moved b c block moved n same =
      let fields : directory_items c moved ≡ cond (is_inline b) (scan (inline_area c) (inline_slots (inline_length b))) (flat_map (λ k. optional_block_items k (block k)) (numbers_below (block_limit (address_count b))))
      = λ i. cond (n.same_inline i) (scan (inline_area c) (inline_slots (4 * (n.same_count i - 1)))) (flat_map (λ k. optional_block_items k (same k i)) (numbers_below (block_limit (n.same_count i)))) in
      fields ∙ cond_same (is_inline b) (λ inside. ap (λ area. scan area (inline_slots (inline_length b))) (n.same_area inside)) (λ outside. refl)

  pub tree_items-moved : (ino : ℕ) → is_inode image ino ≡ true → tree_items other ino ≡ tree_items image ino
  unfolding tree_items
  tree_items-moved ino inode =
      let t = r.inode ino inode in
      ap (λ o. option_map_or (λ b. directory_items b (λ k. main_block other (tree_slot other ino k))) o []) t.3
      ∙ items-moved t.0 t.1 (λ k. main_block image (tree_slot image ino k)) (λ k. main_block other (tree_slot other ino k)) t.4 (λ k. r.slot_block ino k inode)
      ∙ sym (ap (λ o. option_map_or (λ b. directory_items b (λ k. main_block image (tree_slot image ino k))) o []) t.2)

  -- ---- the tree

  piece-moved : (ino k : ℕ) → is_inode image ino ≡ true → piece_at other (tree_slot other ino k) ≡ piece_at image (tree_slot image ino k)
  piece-moved ino k inode = λ i. cond (r.same_reserved ino k inode i) reserved (option_map_or stored (r.slot_block ino k inode i) hole)

  -- an attribute node stands at an offset of its own, so all its bytes stay
  attribute_at : (ino : ℕ) (b : Block) → is_inode image ino ≡ true → inode_of image ino ≡ Some b → (xattr_nid b == 0) ≡ false → offset_of_node image (xattr_nid b) ino ≡ attribute_offset
  unfolding attribute_parts defects
  attribute_at ino b inode is some =
      let found = offset_of_node image (xattr_nid b) ino in
      let clear = part_clear (attribute_parts image) (rule_met image (body_checked image h) 12 (omega arith) (omega arith)) 0 no_part (omega arith) in
      eqb-true found attribute_offset (not-false _ (none_fails _ clear ino 0 (inode_below image h ino inode) (omega arith)
      (record { found = found; wanted = attribute_offset; fails = not (found == attribute_offset) }) (rw (is, some) refl)))

  attribute_bytes : (nid ino : ℕ) → ((nid == 0) ≡ false → offset_of_node image nid ino ≡ attribute_offset)
      → option_map (λ b. bytes_at b 0 4072) (read_node other nid) ≡ option_map (λ b. bytes_at b 0 4072) (read_node image nid)
  attribute_bytes nid ino at = go (nid == 0) refl
    where
      go : (z : Bool) → (nid == 0) ≡ z → option_map (λ b. bytes_at b 0 4072) (read_node other nid) ≡ option_map (λ b. bytes_at b 0 4072) (read_node image nid)
      go true z =
          let none = read_node-zero image in
          let none_other = read_node-zero other in
          λ i. option_map (λ b. bytes_at b 0 4072) ((ap (read_node other) (eqb-true nid 0 z) ∙ none_other ∙ sym none ∙ sym (ap (read_node image) (eqb-true nid 0 z))) i)
      go false z =
          let says = offset_says image (body_checked image h) nid ino attribute_offset (at z) (omega arith) in
          let b = block_at image says.0.address in
          let is = read_node-checked image (body_checked image h) nid says.0 says.1 in
          let t = (r.nodes nid).some b is in
          let away : node_offset b ≡ 0 → ⊥ = λ e. (let low = sym e ∙ says.3 in omega (arith, low)) in
          let bytes : bytes_at t.0 0 4072 ≡ bytes_at b 0 4072
          = bytes_same b t.0 0 4072 (t.2.new.length ∙ sym t.2.old.length) (narrow b t.0 0 4096 0 4072 (node_agrees to b t.0 t.2 away (ap is_direct says.3 ∙ attribute_indirect)) (omega arith) (omega arith)) in
          ap (option_map (λ x. bytes_at x 0 4072)) t.1 ∙ ap Some bytes ∙ sym (ap (option_map (λ x. bytes_at x 0 4072)) is)

  object-moved : (ino : ℕ) (b c : Block) → is_inode image ino ≡ true → inode_of image ino ≡ Some b → IsMovedInode to b c → tree_object other ino c ≡ tree_object image ino b
  object-moved ino b c inode is n =
      let pieces : (λ k. piece_at other (tree_slot other ino k)) ≡ (λ k. piece_at image (tree_slot image ino k)) = λ i k. piece-moved ino k inode i in
      let content = content_moved to b c n.node n.at_zero (λ k. piece_at image (tree_slot image ino k)) (λ k. piece_at other (tree_slot other ino k)) pieces in
      let node : option_map (λ x. bytes_at x 0 4072) (read_node other (xattr_nid c)) ≡ option_map (λ x. bytes_at x 0 4072) (read_node image (xattr_nid b))
      = ap (λ nid. option_map (λ x. bytes_at x 0 4072) (read_node other nid)) n.same_xattr ∙ attribute_bytes (xattr_nid b) ino (attribute_at ino b inode is) in
      λ i. record {
        kind = unwrap_or (type_of_mode (n.same_mode i)) 0;
        attributes = n.same_attributes i;
        content = content i;
        attribute_area = n.same_attribute_area i;
        attribute_node = node i;
        names = λ name target. (n.same_mode i / 4096 == 4) && gives_name (tree_items-moved ino inode i) name target;
      }

  tree_at : (ino : ℕ) → tree other ino ≡ tree image ino
  unfolding tree
  tree_at ino =
      let first : tree other ino ≡ cond (is_inode image ino) (option_map (tree_object other ino) (read_node other ino)) None
      = λ i. cond (r.same_inode ino i) (option_map (tree_object other ino) (read_node other ino)) None in
      first ∙ cond_same (is_inode image ino) (λ inode. at inode) (λ none. refl)
    where
      at : is_inode image ino ≡ true → option_map (tree_object other ino) (read_node other ino) ≡ option_map (tree_object image ino) (read_node image ino)
      at inode =
          let t = r.inode ino inode in
          let is : inode_of image ino ≡ Some t.0 = rw inode t.2 in
          ap (option_map (tree_object other ino)) t.3 ∙ ap Some (object-moved ino t.0 t.1 inode is t.4) ∙ sym (ap (option_map (tree_object image ino)) t.2)

  pub tree-moved : tree other ≡ tree image
  tree-moved = λ i ino. tree_at ino i

  -- ---- names

  pub is_directory_of-moved : (ino : ℕ) → is_some (directory_of other ino) ≡ is_some (directory_of image ino)
  is_directory_of-moved ino = paired_is_some (IsMovedInode to) (directory_of image ino) (directory_of other ino) (r.directories ino)

  pub inode_from : (ino : ℕ) → is_some (directory_of image ino) ≡ true → is_inode image ino ≡ true
  inode_from ino d = go (is_inode image ino) refl
    where
      go : (b : Bool) → is_inode image ino ≡ b → is_inode image ino ≡ true
      go true e = e
      go false e =
          let none : false ≡ true = rw e at d in
          absurd (false≢true none)

  pub names_in-moved : (ino : ℕ) → names_in other ino ≡ names_in image ino
  names_in-moved ino =
      let first : names_in other ino ≡ cond (is_some (directory_of image ino)) (filter is_name (tree_items other ino)) []
      = λ i. cond (is_directory_of-moved ino i) (filter is_name (tree_items other ino)) [] in
      first ∙ cond_same (is_some (directory_of image ino)) (λ d. ap (filter is_name) (tree_items-moved ino (inode_from ino d))) (λ none. refl)

  pub names_for-moved : (target ino : ℕ) → names_for other target ino ≡ names_for image target ino
  names_for-moved target ino = λ i. count_by (λ item. item.ino == target) (names_in-moved ino i)

  pub name_count-moved : (target : ℕ) → name_count other target ≡ name_count image target
  unfolding name_count
  name_count-moved target = λ i. sum_by (λ ino. names_for-moved target ino i) (numbers_below (nid_limit (r.same_layout i)))

  pub least_parent-moved : (target : ℕ) → least_parent other target ≡ least_parent image target
  unfolding least_parent
  least_parent-moved target = λ i. find (λ ino. nat_lt 0 (names_for-moved target ino i)) (numbers_below (nid_limit (r.same_layout i)))

  least_ancestor-moved : (n ino : ℕ) → least_ancestor other n ino ≡ least_ancestor image n ino
  unfolding least_ancestor
  least_ancestor-moved zero ino = refl
  least_ancestor-moved (suc n) ino = λ i. option_and_then (λ up. least_parent-moved up i) (least_ancestor-moved n ino i)

  pub is_least_ancestor-moved : (ino : ℕ) → is_least_ancestor other ino ≡ is_least_ancestor image ino
  unfolding is_least_ancestor
  is_least_ancestor-moved ino = λ i. list_any (λ n. option_map_or (λ up. up == ino) (least_ancestor-moved (n + 1) ino i) false) (numbers_below (nid_limit (r.same_layout i)))
