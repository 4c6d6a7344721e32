-- On a checked image the nodes of a file by their footers are those by its nid slots.
use Rattle.std.proofs.Common.{◌≡◌, ℕ, ◌<◌, List, [], ◌∷◌, Bool, true, false, ◌&&◌, ◌==◌, cond, Option, Some, None, refl, sym, ap, ◌∙◌, arith}
use Rattle.std.specs.Prelude.{find, option_and_then}
use Rattle.std.proofs.lemmas.Bool.{and_parts, and_from, eqb-true, eq-eqb, ne_eqb, false≢true}
use Rattle.f2_bytes.specs.Bytes.{Image, numbers_below, block_at}
use Rattle.f2_bytes.specs.Superblock.{layout}
use Rattle.f2_bytes.specs.NodeAddressTable.{nid_limit, nat}
use Rattle.f2_bytes.specs.Journal.{NatEntry}
use Rattle.f2_bytes.specs.Node.{footer_ino, node_offset, offset_limit}
use Rattle.f2_bytes.specs.RollForward.{node_block}
use Rattle.f2_bytes.specs.Tree.{read_node, nid_slot, is_inode, has_nid_slots, tree_node}
use Rattle.f2_bytes.specs.SalvagedFiles.{is_node_at, nid_at, file_node}
use Rattle.f2_bytes.specs.Check.{is_checked_body}
use Rattle.f2_bytes.proofs.Below.{some_below}
use Rattle.f2_salvage.proofs.NamedNodes.{read_node-none, nid_not_zero, slot_names_node}
use Rattle.f2_salvage.proofs.Owners.{find_only}
use Rattle.f2_bytes.proofs.CheckedChain.{chain_length-checked}
use Rattle.f2_bytes.proofs.CheckedNodes.{nat-below, read_node-checked, entry_ino, node_block-checked}
use Rattle.f2_bytes.proofs.CheckedPlaces.{offset_limit-value, inode_at_zero, slot_offset, offset_says}
use Rattle.f2_bytes.proofs.TreeNodes.{read_node-zero, tree_node-nid_slot}

pub find_nothing : {A : Type 0} (p : A → Bool) (xs : List A) → ((y : A) → p y ≡ true → ⊥) → find p xs ≡ None
find_nothing p [] never = refl
find_nothing p (x ∷ xs) never = go (p x) refl (find_nothing p xs never)
  where
    go : (b : Bool) → p x ≡ b → find p xs ≡ None → find p (x ∷ xs) ≡ None
    go true e more = absurd (never x e)
    go false e more = rw e more

module _ (image : Image) (h : is_checked_body image ≡ true) where
  -- what it says that a node stands at an offset of a file
  pub node_says : (ino offset nid : ℕ) → is_node_at image ino offset nid ≡ true → (e : NatEntry) × (nat image nid ≡ Some e) × (e.ino ≡ ino) × (node_offset (block_at image e.address) ≡ offset)
  node_says ino offset nid at = go (nat image nid) refl
    where
      go : (o : Option NatEntry) → nat image nid ≡ o → (e : NatEntry) × (nat image nid ≡ Some e) × (e.ino ≡ ino) × (node_offset (block_at image e.address) ≡ offset)
      go None r =
          let block : node_block image nid ≡ None = node_block-checked image h nid ∙ read_node-none image nid r in
          let none : false ≡ true = rw block at at in
          absurd (false≢true none)
      go (Some e) r =
          let b = block_at image e.address in
          let block : node_block image nid ≡ Some b = node_block-checked image h nid ∙ read_node-checked image h nid e r in
          let parts : ((footer_ino b == ino) && (node_offset b == offset)) ≡ true = rw block at at in
          let own : footer_ino b ≡ e.ino = eqb-true (footer_ino b) e.ino (entry_ino image h nid e r) in
          (e, r, sym own ∙ eqb-true (footer_ino b) ino (and_parts _ _ parts).0, eqb-true (node_offset b) offset (and_parts _ _ parts).1)

  -- such a node is the one that the nid slot names
  node_is_named : (ino offset nid : ℕ) → offset < offset_limit → (offset ≡ 0 → ⊥) → is_node_at image ino offset nid ≡ true → nid_slot image ino offset ≡ nid
  node_is_named ino offset nid within below at =
      let says = node_says ino offset nid at in
      let e = says.0 in
      let other : is_inode image nid ≡ false = not_inode nid e says.1 (λ z. below (sym says.3 ∙ z)) in
      let inside : node_offset (block_at image e.address) < offset_limit = rw says.3 within in
      sym (ap (λ i. nid_slot image i offset) says.2)
      ∙ sym (ap (nid_slot image e.ino) says.3)
      ∙ slot_names_node image h nid e says.1 other inside
    where
      not_inode : (n : ℕ) (x : NatEntry) → nat image n ≡ Some x → (node_offset (block_at image x.address) ≡ 0 → ⊥) → is_inode image n ≡ false
      not_inode n x r away = by_cases (is_inode image n) refl
        where
          by_cases : (b : Bool) → is_inode image n ≡ b → is_inode image n ≡ false
          by_cases true i = absurd (away (inode_at_zero image h n x r i))
          by_cases false i = i

  -- the node that a nid slot names stands at its offset
  named_is_node : (ino offset : ℕ) → is_inode image ino ≡ true → ino < nid_limit (layout image) → offset < offset_limit → (nid_slot image ino offset == 0) ≡ false → is_node_at image ino offset (nid_slot image ino offset) ≡ true
  named_is_node ino offset inode below within used =
      let nid = nid_slot image ino offset in
      let limit = offset_limit-value in
      let says = offset_says image h nid ino offset (slot_offset image h ino offset inode below within used) (omega (arith, within, limit)) in
      let e = says.0 in
      let b = block_at image e.address in
      let block : node_block image nid ≡ Some b = node_block-checked image h nid ∙ read_node-checked image h nid e says.1 in
      let own : footer_ino b ≡ ino = eqb-true (footer_ino b) e.ino (entry_ino image h nid e says.1) ∙ says.2 in
      rw block (and_from _ _ (eq-eqb (footer_ino b) ino own) (eq-eqb (node_offset b) offset says.3))

  -- the nid at an offset of a file is the one in the nid slot, if there is one
  nid_at-checked : (ino offset : ℕ) → is_inode image ino ≡ true → ino < nid_limit (layout image) → offset < offset_limit → (offset ≡ 0 → ⊥)
      → nid_at image ino offset ≡ cond (nid_slot image ino offset == 0) None (Some (nid_slot image ino offset))
  unfolding nid_at numbers_below
  nid_at-checked ino offset inode below within away = rw (ne_eqb offset 0 away, chain_length-checked image h) (go (nid_slot image ino offset == 0) refl)
    where
      go : (b : Bool) → (nid_slot image ino offset == 0) ≡ b → find (is_node_at image ino offset) (numbers_below (nid_limit (layout image))) ≡ cond (nid_slot image ino offset == 0) None (Some (nid_slot image ino offset))
      go true zero_nid = rw zero_nid (find_nothing (is_node_at image ino offset) (numbers_below (nid_limit (layout image)))
          (λ y at.
          let same : nid_slot image ino offset ≡ y = node_is_named ino offset y within away at in
          let says = node_says ino offset y at in
          let used : (y == 0) ≡ false = nid_not_zero image h y says.0 says.1 in
          false≢true (sym used ∙ ap (λ x. x == 0) (sym same) ∙ zero_nid)))
      go false used =
          let at = named_is_node ino offset inode below within used in
          let says = node_says ino offset (nid_slot image ino offset) at in
          rw used (find_only (is_node_at image ino offset) (numbers_below (nid_limit (layout image))) (nid_slot image ino offset)
          (some_below (is_node_at image ino offset) (nid_limit (layout image)) (nid_slot image ino offset) (nat-below image (nid_slot image ino offset) says.0 says.1) at)
          (λ y other. sym (node_is_named ino offset y within away other)))

  -- the node at an offset of a file with slots, by footers and by nid slots
  pub file_node-checked : (ino offset : ℕ) → is_inode image ino ≡ true → ino < nid_limit (layout image) → has_nid_slots image ino ≡ true → offset < offset_limit → (offset ≡ 0 → ⊥)
      → file_node image ino offset ≡ tree_node image ino offset
  file_node-checked ino offset inode below slots within away =
      rw (nid_at-checked ino offset inode below within away) (go (nid_slot image ino offset == 0) refl)
      ∙ sym (tree_node-nid_slot image ino offset slots away)
    where
      go : (b : Bool) → (nid_slot image ino offset == 0) ≡ b → option_and_then (node_block image) (cond (nid_slot image ino offset == 0) None (Some (nid_slot image ino offset))) ≡ read_node image (nid_slot image ino offset)
      go true zero_nid = rw (zero_nid, eqb-true (nid_slot image ino offset) 0 zero_nid) (sym (read_node-zero image))
      go false used = rw used (node_block-checked image h (nid_slot image ino offset))
