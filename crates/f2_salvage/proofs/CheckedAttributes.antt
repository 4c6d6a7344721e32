-- On a checked image the attribute node of a file by its footer is the one that the inode names.
use Rattle.std.proofs.Common.{◌≡◌, ℕ, ◌+◌, ◌≤◌, Bool, true, false, ◌==◌, cond, Some, None, refl, sym, ap, ◌∙◌, ⊎_elim, inl, inr, ◌⊎◌, arith}
use Rattle.std.specs.Prelude.{find, option_and_then}
use Rattle.std.specs.Option.{option_map_or}
use Rattle.std.proofs.lemmas.Bool.{and_from, eqb-true, eq-eqb, false≢true, false_from_ne_true}
use Rattle.f2_bytes.specs.Bytes.{Block, Image, block_at, numbers_below}
use Rattle.f2_bytes.specs.Superblock.{layout}
use Rattle.f2_bytes.specs.NodeAddressTable.{nid_limit}
use Rattle.f2_bytes.specs.Node.{footer_ino, node_offset, xattr_nid, offset_limit, attribute_offset}
use Rattle.f2_bytes.specs.RollForward.{node_block}
use Rattle.f2_bytes.specs.Tree.{read_node, nid_slot, is_inode}
use Rattle.f2_bytes.specs.SalvagedFiles.{is_node_at, nid_at, file_node}
use Rattle.f2_bytes.specs.Check.{digit, times_named, times_named_in, offset_of_node, is_checked_body}
use Rattle.f2_bytes.proofs.Below.{some_below}
use Rattle.f2_bytes.proofs.Terms.{term_below, counted_some}
use Rattle.f2_salvage.proofs.NamedNodes.{named_once, slot_of_node, xattr_offset, nid_not_zero}
use Rattle.f2_salvage.proofs.Owners.{find_only}
use Rattle.f2_bytes.proofs.TreeNodes.{read_node-zero}
use Rattle.f2_bytes.proofs.CheckedChain.{chain_length-checked}
use Rattle.f2_bytes.proofs.CheckedNodes.{nat-below, read_node-checked, entry_ino, node_block-checked}
use Rattle.f2_bytes.proofs.CheckedPlaces.{offset_limit-value, inode_at_zero, offset_says}
use Rattle.f2_salvage.proofs.CheckedFiles.{find_nothing, node_says}
use Rattle.f2_salvage.proofs.ListFacts.{some_injective}
use Rattle.f2_salvage.proofs.CheckedInodes.{inode_below, inode_block}

either : {n : ℕ} (b : Bool) → 1 ≤ n + digit b → (1 ≤ n) ⊎ (b ≡ true)
either true h = inr refl
either false h = inl (omega (arith, h))

module _ (image : Image) (h : is_checked_body image ≡ true) (ino : ℕ) (b : Block) (inode : is_inode image ino ≡ true) (is : read_node image ino ≡ Some b) where
  -- an attribute node of the file is the one that the inode names
  attribute_is_named : (nid : ℕ) → is_node_at image ino attribute_offset nid ≡ true → xattr_nid b ≡ nid
  unfolding times_named
  attribute_is_named nid at =
      let says = node_says image h ino attribute_offset nid at in
      let e = says.0 in
      let entry = says.1 in
      let offset = says.3 in
      let other : is_inode image nid ≡ false = false_from_ne_true (is_inode image nid) (λ i. let zero_offset = inode_at_zero image h nid e entry i in absurd (omega (arith, zero_offset, offset))) in
      let once : times_named image nid ≡ 1 = named_once image h nid e entry other in
      let t = term_below (times_named_in image nid) (is_inode image) (nid_limit (layout image)) (omega (arith, once)) in
      ⊎_elim (λ counted.
      let place = counted_some (λ offset. nid_slot image t.0 offset == nid) offset_limit counted in
      let same = slot_of_node image h t.0 place.0 nid e entry t.2 t.1 place.1 place.2 in
      let at_offset = same.1 in
      let within = place.1 in
      let limit = offset_limit-value in
      absurd (omega (arith, at_offset, offset, within, limit)))
      (λ attribute.
      let node = inode_block image h t.0 t.2 in
      let names : xattr_nid node.0 ≡ nid = eqb-true (xattr_nid node.0) nid (sym (ap (λ o. option_map_or xattr_nid o 0 == nid) node.1) ∙ attribute) in
      let used : (xattr_nid node.0 == 0) ≡ false = ap (λ x. x == 0) names ∙ nid_not_zero image h nid e entry in
      let there : offset_of_node image nid t.0 ≡ attribute_offset = sym (ap (λ x. offset_of_node image x t.0) names) ∙ xattr_offset image h t.0 node.0 t.2 t.1 node.1 used in
      let own = offset_says image h nid t.0 attribute_offset there (omega arith) in
      let same : own.0 ≡ e = some_injective own.0 e (sym own.1 ∙ entry) in
      let file : t.0 ≡ ino = sym own.2 ∙ ap (λ x. x.ino) same ∙ says.2 in
      let block : node.0 ≡ b = some_injective node.0 b (sym node.1 ∙ ap (read_node image) file ∙ is) in
      sym (ap xattr_nid block) ∙ names)
      (either (option_map_or xattr_nid (read_node image t.0) 0 == nid) t.3)

  -- the node that the inode names is its attribute node
  attribute_is_node : (xattr_nid b == 0) ≡ false → is_node_at image ino attribute_offset (xattr_nid b) ≡ true
  attribute_is_node used =
      let nid = xattr_nid b in
      let says = offset_says image h nid ino attribute_offset (xattr_offset image h ino b inode (inode_below image h ino inode) is used) (omega arith) in
      let e = says.0 in
      let c = block_at image e.address in
      let block : node_block image nid ≡ Some c = node_block-checked image h nid ∙ read_node-checked image h nid e says.1 in
      let own : footer_ino c ≡ ino = eqb-true (footer_ino c) e.ino (entry_ino image h nid e says.1) ∙ says.2 in
      rw block (and_from _ _ (eq-eqb (footer_ino c) ino own) (eq-eqb (node_offset c) attribute_offset says.3))

  attribute_nid : nid_at image ino attribute_offset ≡ cond (xattr_nid b == 0) None (Some (xattr_nid b))
  unfolding nid_at numbers_below
  attribute_nid = rw (chain_length-checked image h) (go (xattr_nid b == 0) refl)
    where
      go : (z : Bool) → (xattr_nid b == 0) ≡ z → find (is_node_at image ino attribute_offset) (numbers_below (nid_limit (layout image))) ≡ cond (xattr_nid b == 0) None (Some (xattr_nid b))
      go true zero_nid = rw zero_nid (find_nothing (is_node_at image ino attribute_offset) (numbers_below (nid_limit (layout image)))
          (λ y at.
          let same : xattr_nid b ≡ y = attribute_is_named y at in
          let says = node_says image h ino attribute_offset y at in
          let used : (y == 0) ≡ false = nid_not_zero image h y says.0 says.1 in
          false≢true (sym used ∙ ap (λ x. x == 0) (sym same) ∙ zero_nid)))
      go false used =
          let at = attribute_is_node used in
          let says = node_says image h ino attribute_offset (xattr_nid b) at in
          rw used (find_only (is_node_at image ino attribute_offset) (numbers_below (nid_limit (layout image))) (xattr_nid b)
          (some_below (is_node_at image ino attribute_offset) (nid_limit (layout image)) (xattr_nid b) (nat-below image (xattr_nid b) says.0 says.1) at)
          (λ y other. sym (attribute_is_named y other)))

  -- the attribute node of a file
  pub attribute_node-checked : file_node image ino attribute_offset ≡ read_node image (xattr_nid b)
  attribute_node-checked = rw attribute_nid (go (xattr_nid b == 0) refl)
    where
      go : (z : Bool) → (xattr_nid b == 0) ≡ z → option_and_then (node_block image) (cond (xattr_nid b == 0) None (Some (xattr_nid b))) ≡ read_node image (xattr_nid b)
      go true zero_nid = rw (zero_nid, eqb-true (xattr_nid b) 0 zero_nid) (sym (read_node-zero image))
      go false used = rw used (node_block-checked image h (xattr_nid b))
