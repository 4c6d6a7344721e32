-- On a checked image each address in a node is that of a block of a file, which the node holds.
use Rattle.std.proofs.Common.{◌≡◌, ℕ, ◌+◌, ◌-◌, ◌<◌, ◌≤◌, ◌⊎◌, inl, inr, Bool, true, false, not, ◌==◌, cond, Some, None, refl, sym, ap, ◌∙◌, subst, arith}
use Rattle.std.specs.Prelude.{option_and_then, unwrap_or}
use Rattle.std.specs.Option.{option_map_or}
use Rattle.std.proofs.lemmas.Bool.{eqb-true, ne_eqb, not-false, cases_lt, false≢true}
use Rattle.f2_bytes.specs.Bytes.{Block, Image, block_at, word, count_below}
use Rattle.f2_bytes.specs.Superblock.{layout}
use Rattle.f2_bytes.specs.Journal.{NatEntry}
use Rattle.f2_bytes.specs.NodeAddressTable.{nid_limit, nat}
use Rattle.f2_bytes.specs.Node.{node_offset, has_slots, is_direct, address_count, address_word, parent_of, locate, offset_limit, attribute_offset, xattr_nid, word_in, word_at_spot, slot_in}
use Rattle.f2_bytes.specs.Tree.{read_node, node_within, tree_node, has_nid_slots, nid_slot, tree_slot, is_inode}
use Rattle.f2_bytes.specs.Check.{defects, node_parts, attribute_parts, is_checked, offset_of_node, times_named, times_named_in, spot_of, nid_of_spot}
use Rattle.f2_bytes.proofs.CheckLaws.{none_fails}
use Rattle.f2_bytes.proofs.CheckedChain.{rule_met, part_clear}
use Rattle.f2_bytes.proofs.CheckedNodes.{no_part, nat-range, nat-below, node_part_clear, read_node-checked}
use Rattle.f2_bytes.proofs.CheckedPlaces.{offset_limit-value, inode_at_zero, slot_offset, offset_says}
use Rattle.f2_bytes.proofs.CheckedUsed.{inode_below}
use Rattle.f2_bytes.proofs.SlotSupport.{body_checked, inode_entry}
use Rattle.f2_bytes.proofs.Terms.{term_below, counted_some, true_from_digit}
use Rattle.f2_bytes.proofs.TreeNodes.{tree_node-nid_slot}
use Rattle.f2_commit.proofs.MoveSpots.{in_inode, spot_there}

-- word j of a node is to hold the address of a block
abbrev pub IsAddressWord : Block → ℕ → Type 0
IsAddressWord b j =
    ((node_offset b ≡ 0) × (has_slots b ≡ true) × (90 ≤ j) × (j < 90 + address_count b))
    ⊎ ((node_offset b ≡ 0 → ⊥) × (is_direct (node_offset b) ≡ true) × (j < 1018))

-- a value stands in the slot of a file, which this node holds
pub record IsHeld (image : Image) (nid value : ℕ) : Type 0 where
  pub ino : ℕ
  pub number : ℕ
  pub inode : is_inode image ino ≡ true
  pub stands : tree_slot image ino number ≡ value
  pub holder : nid_of_spot image (ino, number) ≡ nid

-- a nid slot of a file names a node
pub record IsNamed (image : Image) (nid offset : ℕ) : Type 0 where
  pub ino : ℕ
  pub inode : is_inode image ino ≡ true
  pub below : offset < offset_limit
  pub names : nid_slot image ino offset ≡ nid

no_parent : (image : Image) (ino : ℕ) → nid_slot image ino 0 ≡ 0
unfolding nid_slot parent_of
no_parent image ino = go (has_nid_slots image ino)
  where
    go : (s : Bool) → ◌≡◌ {A = ℕ} (cond s 0 0) 0
    go true = refl
    go false = refl

no_slots : (image : Image) (ino o : ℕ) → has_nid_slots image ino ≡ false → nid_slot image ino o ≡ 0
unfolding nid_slot
no_slots image ino o none = rw none refl

not_attribute : is_direct attribute_offset ≡ false
unfolding offset_limit
not_attribute = refl

module _ (image : Image) (h : is_checked image ≡ true) where
  some_nid : (nid : ℕ) (e : NatEntry) → nat image nid ≡ Some e → nid ≡ 0 → ⊥
  some_nid nid e is zero =
      let none : None ≡ Some e = sym (nat-range image 0 refl) ∙ sym (ap (nat image) zero) ∙ is in
      absurd (cc none)

  -- a node that is no inode hangs in one place
  hangs_once : (nid : ℕ) (e : NatEntry) → nat image nid ≡ Some e → is_inode image nid ≡ false → times_named image nid ≡ 1
  unfolding node_parts
  hangs_once nid e is other =
      let found = times_named image nid in
      eqb-true found 1 (not-false _ (none_fails _ (node_part_clear image (body_checked image h) 6 (omega arith)) nid 0 (nat-below image nid e is) (omega arith)
      (record { found = found; wanted = 1; fails = not (found == 1) }) (rw (is, other) refl)))

  -- the node that an inode has as its attribute node stands at the offset of one
  attribute_there : (ino nid : ℕ) (e : NatEntry) → is_inode image ino ≡ true → nat image nid ≡ Some e → option_map_or xattr_nid (read_node image ino) 0 ≡ nid → node_offset (block_at image e.address) ≡ attribute_offset
  unfolding attribute_parts defects
  attribute_there ino nid e inode is named =
      let entry = inode_entry image h ino inode in
      let b = block_at image entry.0.address in
      let read : read_node image ino ≡ Some b = read_node-checked image (body_checked image h) ino entry.0 entry.1 in
      let mine : xattr_nid b ≡ nid = sym (ap (λ o. option_map_or xattr_nid o 0) read) ∙ named in
      let some : (xattr_nid b == 0) ≡ false = ne_eqb (xattr_nid b) 0 (λ z. some_nid nid e is (sym mine ∙ z)) in
      let clear = part_clear (attribute_parts image) (rule_met image (body_checked image h) 12 (omega arith) (omega arith)) 0 no_part (omega arith) in
      let found = offset_of_node image (xattr_nid b) ino in
      let at : found ≡ attribute_offset = eqb-true found attribute_offset (not-false _ (none_fails _ clear ino 0 (inode_below image h ino inode) (omega arith)
      (record { found = found; wanted = attribute_offset; fails = not (found == attribute_offset) }) (rw (inode, read, some) refl))) in
      let says = offset_says image (body_checked image h) (xattr_nid b) ino attribute_offset at (omega arith) in
      let entries : Some says.0 ≡ Some e = sym says.1 ∙ ap (nat image) mine ∙ is in
      let same : says.0 ≡ e = ap (λ o. elim o [ Some x ↦ x | None ↦ e ]) entries in
      ap (λ x. node_offset (block_at image x.address)) (sym same) ∙ says.3

  -- a node that is no inode is named at its offset, or an attribute node
  hangs_at : (nid : ℕ) (e : NatEntry) → nat image nid ≡ Some e → is_inode image nid ≡ false
      → IsNamed image nid (node_offset (block_at image e.address)) ⊎ (node_offset (block_at image e.address) ≡ attribute_offset)
  unfolding times_named
  hangs_at nid e is other =
      let once = hangs_once nid e is other in
      let t = term_below (times_named_in image nid) (is_inode image) (nid_limit (layout image)) (omega (arith, once)) in
      by_count t.0 t.2 t.3 (cases_lt 0 (count_below offset_limit (λ o. nid_slot image t.0 o == nid)))
    where
      by_slot : (ino : ℕ) → is_inode image ino ≡ true → (o : ℕ) → o < offset_limit → nid_slot image ino o ≡ nid → IsNamed image nid (node_offset (block_at image e.address))
      by_slot ino inode o low names =
          let limit = offset_limit-value in
          let some : (nid_slot image ino o == 0) ≡ false = ne_eqb (nid_slot image ino o) 0 (λ z. some_nid nid e is (sym names ∙ z)) in
          let at = slot_offset image (body_checked image h) ino o inode (inode_below image h ino inode) low some in
          let says = offset_says image (body_checked image h) (nid_slot image ino o) ino o at (omega (arith, low, limit)) in
          let entries : Some says.0 ≡ Some e = sym says.1 ∙ ap (nat image) names ∙ is in
          let same : says.0 ≡ e = ap (λ x. elim x [ Some y ↦ y | None ↦ e ]) entries in
          let here : o ≡ node_offset (block_at image e.address) = sym says.3 ∙ ap (λ x. node_offset (block_at image x.address)) same in
          subst (IsNamed image nid) here (record { ino = ino; inode = inode; below = low; names = names })

      by_count : (ino : ℕ) → is_inode image ino ≡ true → 1 ≤ times_named_in image nid ino
          → (0 < count_below offset_limit (λ o. nid_slot image ino o == nid)) ⊎ (count_below offset_limit (λ o. nid_slot image ino o == nid) ≤ 0)
          → IsNamed image nid (node_offset (block_at image e.address)) ⊎ (node_offset (block_at image e.address) ≡ attribute_offset)
      by_count ino inode some (inl slots) =
          let place = counted_some (λ o. nid_slot image ino o == nid) offset_limit (omega (arith, slots)) in
          inl (by_slot ino inode place.0 place.1 (eqb-true (nid_slot image ino place.0) nid place.2))
      by_count ino inode some (inr none) =
          let own = true_from_digit (option_map_or xattr_nid (read_node image ino) 0 == nid) (omega (arith, some, none)) in
          inr (attribute_there ino nid e inode is (eqb-true (option_map_or xattr_nid (read_node image ino) 0) nid own))

  -- only an inode stands at offset 0
  pub zero_inode : (nid : ℕ) (e : NatEntry) → nat image nid ≡ Some e → node_offset (block_at image e.address) ≡ 0 → is_inode image nid ≡ true
  zero_inode nid e is zero = go (is_inode image nid) refl
    where
      by_place : IsNamed image nid (node_offset (block_at image e.address)) ⊎ (node_offset (block_at image e.address) ≡ attribute_offset) → ⊥
      by_place (inl named) = some_nid nid e is (sym named.names ∙ ap (nid_slot image named.ino) zero ∙ no_parent image named.ino)
      by_place (inr attribute) = let no : 0 ≡ attribute_offset = sym zero ∙ attribute in omega (arith, no)

      go : (i : Bool) → is_inode image nid ≡ i → is_inode image nid ≡ true
      go true inode = inode
      go false other = absurd (by_place (hangs_at nid e is other))

  -- a node of addresses is named at its offset
  direct_named : (nid : ℕ) (e : NatEntry) → nat image nid ≡ Some e → is_direct (node_offset (block_at image e.address)) ≡ true → IsNamed image nid (node_offset (block_at image e.address))
  direct_named nid e is direct = go (is_inode image nid) refl
    where
      by_place : IsNamed image nid (node_offset (block_at image e.address)) ⊎ (node_offset (block_at image e.address) ≡ attribute_offset) → IsNamed image nid (node_offset (block_at image e.address))
      by_place (inl named) = named
      by_place (inr attribute) =
          let no : false ≡ true = sym not_attribute ∙ sym (ap is_direct attribute) ∙ direct in
          absurd (false≢true no)

      go : (i : Bool) → is_inode image nid ≡ i → IsNamed image nid (node_offset (block_at image e.address))
      go true inode =
          let no : false ≡ true = sym (ap is_direct (inode_at_zero image (body_checked image h) nid e is inode)) ∙ direct in
          absurd (false≢true no)
      go false other = by_place (hangs_at nid e is other)

  -- ---- the slot of a word

  -- where the address of a block stands, by the inode of its file
  spot_is : (ino k : ℕ) (b : Block) (spot : ℕ × ℕ) → read_node image ino ≡ Some b → locate k (address_count b) ≡ Some spot → spot_of image (ino, k) ≡ spot
  spot_is ino k b spot read at = ap (λ o. unwrap_or (option_and_then (λ x. locate k (address_count x)) o) (0, 0)) read ∙ ap (λ o. unwrap_or o (0, 0)) at

  slot_is : (ino k : ℕ) (b : Block) (spot : ℕ × ℕ) → read_node image ino ≡ Some b → has_slots b ≡ true → locate k (address_count b) ≡ Some spot → tree_slot image ino k ≡ word_in spot (tree_node image ino spot.0)
  unfolding tree_slot node_within
  slot_is ino k b spot read slots at =
      ap (λ o. slot_in (tree_node image ino) o k) read
      ∙ ap (λ s. cond s (word_at_spot (tree_node image ino) (locate k (address_count b))) 0) slots
      ∙ ap (word_at_spot (tree_node image ino)) at

  first_node : (ino : ℕ) → tree_node image ino 0 ≡ read_node image ino
  unfolding node_within
  first_node ino = refl

  in_own_node : (nid j : ℕ) (e : NatEntry) → nat image nid ≡ Some e → node_offset (block_at image e.address) ≡ 0 → has_slots (block_at image e.address) ≡ true → j < address_count (block_at image e.address)
      → IsHeld image nid (address_word (block_at image e.address) j)
  in_own_node nid j e is zero slots low =
      let b = block_at image e.address in
      let read : read_node image nid ≡ Some b = read_node-checked image (body_checked image h) nid e is in
      let at = in_inode j (address_count b) low in
      let spot = spot_is nid j b (0, j) read at in
      record {
        ino = nid;
        number = j;
        inode = zero_inode nid e is zero;
        stands = slot_is nid j b (0, j) read slots at ∙ ap (word_in (0, j)) (first_node nid ∙ read);
        holder = ap (λ s. cond (s.0 == 0) nid (nid_slot image nid s.0)) spot;
      }

  in_other_node : (nid j : ℕ) (e : NatEntry) → nat image nid ≡ Some e → (node_offset (block_at image e.address) ≡ 0 → ⊥) → is_direct (node_offset (block_at image e.address)) ≡ true → j < 1018
      → IsHeld image nid (word (block_at image e.address) j)
  in_other_node nid j e is away direct low = by_name (direct_named nid e is direct)
    where
      b : Block
      b = block_at image e.address

      o : ℕ
      o = node_offset (block_at image e.address)

      here : (node_offset (block_at image e.address) == 0) ≡ false
      here = ne_eqb (node_offset (block_at image e.address)) 0 away

      by_slots : (n : IsNamed image nid (node_offset (block_at image e.address))) → (s : Bool) → has_nid_slots image n.ino ≡ s → has_nid_slots image n.ino ≡ true
      by_slots n true s = s
      by_slots n false s = absurd (some_nid nid e is (sym n.names ∙ no_slots image n.ino (node_offset (block_at image e.address)) s))

      by_inode : (n : IsNamed image nid (node_offset (block_at image e.address))) (x : NatEntry) → nat image n.ino ≡ Some x → IsHeld image nid (word (block_at image e.address) j)
      by_inode n x entry =
          let i = block_at image x.address in
          let read : read_node image n.ino ≡ Some i = read_node-checked image (body_checked image h) n.ino x entry in
          let nid_slots = by_slots n (has_nid_slots image n.ino) refl in
          let slots : has_slots i ≡ true = sym (ap (λ q. option_map_or has_slots q false) read) ∙ nid_slots in
          let t = spot_there (node_offset (block_at image e.address)) j (address_count i) direct low in
          let node : tree_node image n.ino (node_offset (block_at image e.address)) ≡ Some (block_at image e.address)
          = tree_node-nid_slot image n.ino (node_offset (block_at image e.address)) nid_slots away ∙ ap (read_node image) n.names ∙ read_node-checked image (body_checked image h) nid e is in
          let spot = spot_is n.ino t.0 i (node_offset (block_at image e.address), j) read t.1 in
          record {
            ino = n.ino;
            number = t.0;
            inode = n.inode;
            stands = slot_is n.ino t.0 i (node_offset (block_at image e.address), j) read slots t.1 ∙ ap (word_in (node_offset (block_at image e.address), j)) node
                ∙ ap (λ z. cond z (address_word (block_at image e.address) j) (word (block_at image e.address) j)) here;
            holder = ap (λ s. cond (s.0 == 0) n.ino (nid_slot image n.ino s.0)) spot ∙ ap (λ z. cond z n.ino (nid_slot image n.ino (node_offset (block_at image e.address)))) here ∙ n.names;
          }

      by_name : IsNamed image nid (node_offset (block_at image e.address)) → IsHeld image nid (word (block_at image e.address) j)
      by_name n = let entry = inode_entry image h n.ino n.inode in by_inode n entry.0 entry.1

  -- each word of a node that is to hold an address does
  pub held : (nid j : ℕ) (e : NatEntry) → nat image nid ≡ Some e → IsAddressWord (block_at image e.address) j → IsHeld image nid (word (block_at image e.address) j)
  held nid j e is (inl t) =
      let high = t.2 in
      let low = t.3 in
      subst (λ x. IsHeld image nid (word (block_at image e.address) x)) (omega (arith, high)) (in_own_node nid (j - 90) e is t.0 t.1 (omega (arith, high, low)))
  held nid j e is (inr t) = in_other_node nid j e is t.0 t.1 t.2
