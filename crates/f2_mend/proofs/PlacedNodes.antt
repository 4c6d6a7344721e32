-- Files laid out in an image: the rules on nodes and on attribute nodes.
use Rattle.std.proofs.Common.{◌≡◌, inl, inr, ℕ, ◌<◌, [], ◌++◌, Bool, true, false, ◌==◌, ◌&&◌, not, cond, get_or, Option, Some, None, subst, refl, sym, ap, ◌∙◌, arith}
use Rattle.std.specs.Prelude.{flat_map, is_none, is_some}
use Rattle.std.specs.Option.{option_map_or}
use Rattle.std.proofs.lemmas.Bool.{and_parts, eqb-true, eq-eqb, not_from_true, cases_eq, false≢true}
use Rattle.f2_bytes.specs.Bytes.{Block, Image, block_at, count_below}
use Rattle.f2_bytes.specs.Superblock.{layout, is_main}
use Rattle.f2_bytes.specs.Journal.{NatEntry}
use Rattle.f2_bytes.specs.NodeAddressTable.{nat}
use Rattle.f2_bytes.specs.Node.{footer_nid, footer_ino, node_offset, mode, has_type, xattr_nid, offset_limit, attribute_offset}
use Rattle.f2_bytes.specs.Tree.{read_node, nid_slot, is_inode}
use Rattle.f2_bytes.specs.Check.{nids, inode_of, directory_of, only_directory, offset_of_node, digit, times_named_in, times_named, part_defects, same, fails_where, where_true, of_value, mode_comparison, node_parts, attribute_parts, is_rule_met, defects}
use Rattle.f2_bytes.proofs.CheckLaws.{clear_from}
use Rattle.f2_bytes.proofs.CheckedNodes.{no_part}
use Rattle.f2_bytes.proofs.PartsHold.{Holds, same_holds, fails_holds, where_holds, value_holds, one_clear, met_of}
use Rattle.f2_bytes.specs.FilePlaces.{FilePlaces, has_node, node_at, inode_at, HoldsFiles}
use Rattle.f2_mend.proofs.PlacedReads.{not_zero, file_node, nodes_apart, entry_of, file_inode, inode_file, file_below, read_placed, read_file, inode_of_file, inode_from, placed_offset}
use Rattle.f2_mend.proofs.PlacedSlots.{attribute_past, nid_slot_zero, nid_slot_placed}
use Rattle.f2_mend.proofs.Sums.{count_none, count_once, sum_passing_only}

module _ (p : FilePlaces) (image : Image) (h : HoldsFiles p image) where
  -- ---- what the table and the nodes say

  entry_lands : (nid : ℕ) (e : NatEntry) → nat image nid ≡ Some e → is_main (layout image) e.address ≡ true
  entry_lands nid e is =
      let entry = entry_of p image h nid e is in
      ap (is_main (layout image)) (entry.address ∙ ap p.address (sym entry.number)) ∙ h.node_lands e.ino entry.offset entry.node

  -- the block that is read of a number is that of the node
  read_block : (nid : ℕ) (e : NatEntry) (b : Block) → nat image nid ≡ Some e → read_node image nid ≡ Some b → b ≡ block_at image (p.address nid)
  read_block nid e b is read =
      let entry = entry_of p image h nid e is in
      let one : Some (node_at p image e.ino entry.offset) ≡ Some b = sym (read_placed p image h e.ino entry.offset entry.node) ∙ ap (read_node image) entry.number ∙ read in
      sym (ap (λ o. elim o [ Some z ↦ z | None ↦ b ]) one) ∙ ap (λ n. block_at image (p.address n)) entry.number

  read_entry : (nid : ℕ) (b : Block) → read_node image nid ≡ Some b → (e : NatEntry) × (nat image nid ≡ Some e)
  unfolding read_node
  read_entry nid b read = go (nat image nid) refl
    where
      go : (o : Option NatEntry) → nat image nid ≡ o → (e : NatEntry) × (nat image nid ≡ Some e)
      go None is =
          let none : None ≡ Some b = rw is at read in
          absurd (cc none)
      go (Some e) is = (e, is)

  nid_says : (nid : ℕ) (b : Block) → read_node image nid ≡ Some b → footer_nid b ≡ nid
  nid_says nid b read =
      let t = read_entry nid b read in
      let entry = entry_of p image h nid t.0 t.1 in
      ap footer_nid (read_block nid t.0 b t.1 read ∙ ap (λ n. block_at image (p.address n)) (sym entry.number))
      ∙ h.footer_nids t.0.ino entry.offset entry.node ∙ entry.number

  ino_says : (nid : ℕ) (b : Block) (e : NatEntry) → read_node image nid ≡ Some b → nat image nid ≡ Some e → footer_ino b ≡ e.ino
  ino_says nid b e read is =
      let entry = entry_of p image h nid e is in
      ap footer_ino (read_block nid e b is read ∙ ap (λ n. block_at image (p.address n)) (sym entry.number))
      ∙ h.footer_inos e.ino entry.offset entry.node

  inode_offset : (ino : ℕ) (b : Block) → inode_of image ino ≡ Some b → node_offset b ≡ 0
  inode_offset ino b is =
      let t = inode_from p image h ino b is in
      ap node_offset t.1 ∙ h.footer_offsets ino 0 (file_node p image h ino t.0)

  -- ---- types

  root_directory : is_none (directory_of image 3) ≡ false
  root_directory =
      let read : directory_of image 3 ≡ only_directory (Some (inode_at p image 3)) = ap only_directory (inode_of_file p image h 3 h.root) in
      let none : is_none (only_directory (Some (inode_at p image 3))) ≡ false = rw h.root_type refl in
      ap is_none read ∙ none

  mode_holds : (nid : ℕ) → Holds (mode_comparison image nid)
  mode_holds nid = go (nid == 3)
    where
      rest : Holds (of_value (inode_of image nid) (λ b. fails_where (not (has_type b)) (mode b) 0))
      rest =
          value_holds (inode_of image nid) (λ b. fails_where (not (has_type b)) (mode b) 0) (λ b is.
          let t = inode_from p image h nid b is in
          fails_holds _ _ _ (not_from_true _ (ap has_type t.1 ∙ h.types nid t.0)))

      go : (b : Bool) → Holds (cond b (fails_where (is_none (directory_of image 3)) (option_map_or mode (inode_of image 3) 0) 0x4000) (of_value (inode_of image nid) (λ b. fails_where (not (has_type b)) (mode b) 0)))
      go true = fails_holds _ _ _ root_directory
      go false = rest

  -- ---- nid slots

  slot_node : (ino o : ℕ) → p.has_file ino ≡ true → o < offset_limit → not (nid_slot image ino o == 0) ≡ true → (has_node p ino o ≡ true) × (nid_slot image ino o ≡ p.nid ino o)
  slot_node ino o file below some = elim (cases_eq o 0) [
    | inl first ↦ absurd (not_zero (nid_slot image ino o) some (ap (nid_slot image ino) first ∙ nid_slot_zero p image h ino file))
    | inr away ↦
        let named = nid_slot_placed p image h ino file o away below in
        (ap (λ n. not (n == 0)) (sym named) ∙ some, named)
  ]

  slot_offset : (ino o : ℕ) → is_inode image ino ≡ true → o < offset_limit → not (nid_slot image ino o == 0) ≡ true → offset_of_node image (nid_slot image ino o) ino ≡ o
  slot_offset ino o inode below some =
      let t = slot_node ino o (inode_file p image h ino inode) below some in
      ap (λ n. offset_of_node image n ino) t.1 ∙ placed_offset p image h ino o t.0

  -- ---- each node but the inodes is named once

  module _ (ino offset : ℕ) (node : has_node p ino offset ≡ true) (below : offset ≡ 0 → ⊥) where
    abbrev nid : ℕ
    nid = p.nid ino offset

    file : p.has_file ino ≡ true
    file = h.files ino offset node

    -- a nid slot with this number is that of the node
    slot_is : (other o : ℕ) → p.has_file other ≡ true → o < offset_limit → (nid_slot image other o == nid) ≡ true → (other ≡ ino) × (o ≡ offset)
    slot_is other o here low named =
        let at : nid_slot image other o ≡ nid = eqb-true (nid_slot image other o) nid named in
        let some : not (nid_slot image other o == 0) ≡ true = ap (λ n. not (n == 0)) at ∙ node in
        let t = slot_node other o here low some in
        nodes_apart p image h other o ino offset t.0 node (sym t.1 ∙ at)

    -- so is the attribute nid
    xattr_of : ℕ → ℕ
    xattr_of other = option_map_or xattr_nid (read_node image other) 0

    xattr_placed : (other : ℕ) → p.has_file other ≡ true → xattr_of other ≡ p.nid other attribute_offset
    unfolding xattr_of
    xattr_placed other here = ap (λ o. option_map_or xattr_nid o 0) (read_file p image h other here) ∙ h.attribute_nids other here

    xattr_is : (other : ℕ) → p.has_file other ≡ true → (xattr_of other == nid) ≡ true → (other ≡ ino) × (attribute_offset ≡ offset)
    xattr_is other here named =
        let at : p.nid other attribute_offset ≡ nid = sym (xattr_placed other here) ∙ eqb-true (xattr_of other) nid named in
        nodes_apart p image h other attribute_offset ino offset (ap (λ n. not (n == 0)) at ∙ node) node at

    false_from : (b : Bool) → (b ≡ true → ⊥) → b ≡ false
    false_from true never = absurd (never refl)
    false_from false never = refl

    in_other : (other : ℕ) → p.has_file other ≡ true → (other ≡ ino → ⊥) → times_named_in image nid other ≡ 0
    unfolding xattr_of
    in_other other here away =
        let slots : count_below offset_limit (λ o. nid_slot image other o == nid) ≡ 0 = count_none (λ o. nid_slot image other o == nid) offset_limit (λ o low named. away (slot_is other o here low named).0) in
        let attribute : (xattr_of other == nid) ≡ false = false_from (xattr_of other == nid) (λ named. away (xattr_is other here named).0) in
        let none : digit (xattr_of other == nid) ≡ 0 = ap digit attribute in
        omega (arith, slots, none)

    in_own : times_named_in image nid ino ≡ 1
    unfolding xattr_of
    in_own = elim (h.offsets ino offset node) [
      | inl low ↦
          let named : (nid_slot image ino offset == nid) ≡ true = eq-eqb (nid_slot image ino offset) nid (nid_slot_placed p image h ino file offset below low) in
          let slots : count_below offset_limit (λ o. nid_slot image ino o == nid) ≡ 1 = count_once (λ o. nid_slot image ino o == nid) offset_limit offset low named (λ o inside is. (slot_is ino o file inside is).1) in
          let attribute : (xattr_of ino == nid) ≡ false = false_from (xattr_of ino == nid) (λ is. attribute_past (subst (λ n. n < offset_limit) (sym (xattr_is ino file is).1) low)) in
          let none : digit (xattr_of ino == nid) ≡ 0 = ap digit attribute in
          omega (arith, slots, none)
      | inr at ↦
          let slots : count_below offset_limit (λ o. nid_slot image ino o == nid) ≡ 0
          = count_none (λ o. nid_slot image ino o == nid) offset_limit (λ o inside is. attribute_past (subst (λ n. n < offset_limit) ((slot_is ino o file inside is).1 ∙ at) inside)) in
          let attribute : (xattr_of ino == nid) ≡ true = eq-eqb (xattr_of ino) nid (xattr_placed ino file ∙ ap (p.nid ino) (sym at)) in
          let one : digit (xattr_of ino == nid) ≡ 1 = ap digit attribute in
          omega (arith, slots, one)
    ]

    named_once : times_named image nid ≡ 1
    unfolding times_named
    named_once =
        sum_passing_only (times_named_in image nid) (is_inode image) (nids image) ino (file_below p image h ino file) (file_inode p image h ino file)
        (λ other low inode away. in_other other (inode_file p image h other inode) away)
        ∙ in_own

  once : (nid : ℕ) → (is_some (nat image nid) && not (is_inode image nid)) ≡ true → times_named image nid ≡ 1
  once nid made = go (nat image nid) refl (and_parts (is_some (nat image nid)) (not (is_inode image nid)) made).0
    where
      other_inode : is_inode image nid ≡ true → ⊥
      other_inode inode =
          let no : false ≡ true = sym (ap not inode) ∙ (and_parts (is_some (nat image nid)) (not (is_inode image nid)) made).1 in
          false≢true no

      go : (o : Option NatEntry) → nat image nid ≡ o → is_some (nat image nid) ≡ true → times_named image nid ≡ 1
      go None is some =
          let no : false ≡ true = sym (ap is_some is) ∙ some in
          absurd (false≢true no)
      go (Some e) is some =
          let entry = entry_of p image h nid e is in
          let away : entry.offset ≡ 0 → ⊥ = λ first. (
          let file = h.files e.ino entry.offset entry.node in
          let own : e.ino ≡ nid = sym (h.numbers e.ino file).1 ∙ ap (p.nid e.ino) (sym first) ∙ entry.number in
          other_inode (subst (λ n. is_inode image n ≡ true) own (file_inode p image h e.ino file))
          ) in
          ap (times_named image) (sym entry.number) ∙ named_once e.ino entry.offset entry.node away

  -- ---- the rule

  nodes_clear : flat_map part_defects (node_parts image) ≡ []
  unfolding node_parts
  nodes_clear = λ i. first i ++ (second i ++ (third i ++ (fourth i ++ (fifth i ++ (sixth i ++ (seventh i ++ []))))))
    where
      first : part_defects (get_or (node_parts image) 0 no_part) ≡ []
      first =
          one_clear 1 (nids image) (λ nid. of_value (nat image nid) (λ e. fails_where (not (is_main (layout image) e.address)) e.address (layout image).main)) (λ nid low.
          value_holds (nat image nid) _ (λ e is. fails_holds _ _ _ (not_from_true _ (entry_lands nid e is))))

      second : part_defects (get_or (node_parts image) 1 no_part) ≡ []
      second =
          one_clear 2 (nids image) (λ nid. of_value (read_node image nid) (λ b. same (footer_nid b) nid)) (λ nid low.
          value_holds (read_node image nid) _ (λ b read. same_holds _ _ (nid_says nid b read)))

      third : part_defects (get_or (node_parts image) 2 no_part) ≡ []
      third =
          one_clear 3 (nids image) (λ nid. of_value (read_node image nid) (λ b. of_value (nat image nid) (λ e. same (footer_ino b) e.ino))) (λ nid low.
          value_holds (read_node image nid) _ (λ b read. value_holds (nat image nid) _ (λ e is. same_holds _ _ (ino_says nid b e read is))))

      fourth : part_defects (get_or (node_parts image) 3 no_part) ≡ []
      fourth =
          one_clear 4 (nids image) (λ nid. of_value (inode_of image nid) (λ b. same (node_offset b) 0)) (λ nid low.
          value_holds (inode_of image nid) _ (λ b is. same_holds _ _ (inode_offset nid b is)))

      fifth : part_defects (get_or (node_parts image) 4 no_part) ≡ []
      fifth = one_clear 5 (nids image) (mode_comparison image) (λ nid low. mode_holds nid)

      sixth : part_defects (get_or (node_parts image) 5 no_part) ≡ []
      sixth =
          clear_from (get_or (node_parts image) 5 no_part) (λ ino offset low inside.
          where_holds (is_inode image ino && not (nid_slot image ino offset == 0)) _ (λ made.
          let parts = and_parts (is_inode image ino) (not (nid_slot image ino offset == 0)) made in
          same_holds _ _ (slot_offset ino offset parts.0 inside parts.1)))

      seventh : part_defects (get_or (node_parts image) 6 no_part) ≡ []
      seventh =
          one_clear 7 (nids image) (λ nid. where_true (is_some (nat image nid) && not (is_inode image nid)) (same (times_named image nid) 1)) (λ nid low.
          where_holds (is_some (nat image nid) && not (is_inode image nid)) _ (λ made. same_holds _ _ (once nid made)))

  pub placed_meets_node_rule : is_rule_met image 3 ≡ true
  unfolding defects
  placed_meets_node_rule = met_of (node_parts image) nodes_clear

  -- ---- attribute nodes

  attribute_at : (ino : ℕ) (b : Block) → inode_of image ino ≡ Some b → not (xattr_nid b == 0) ≡ true → offset_of_node image (xattr_nid b) ino ≡ attribute_offset
  attribute_at ino b is some =
      let t = inode_from p image h ino b is in
      let named : xattr_nid b ≡ p.nid ino attribute_offset = ap xattr_nid t.1 ∙ h.attribute_nids ino t.0 in
      ap (λ n. offset_of_node image n ino) named ∙ placed_offset p image h ino attribute_offset (ap (λ n. not (n == 0)) (sym named) ∙ some)

  attributes_clear : flat_map part_defects (attribute_parts image) ≡ []
  unfolding attribute_parts
  attributes_clear = λ i. first i ++ []
    where
      first : part_defects (get_or (attribute_parts image) 0 no_part) ≡ []
      first =
          one_clear 1 (nids image) (λ ino. of_value (inode_of image ino) (λ b. where_true (not (xattr_nid b == 0)) (same (offset_of_node image (xattr_nid b) ino) attribute_offset))) (λ ino low.
          value_holds (inode_of image ino) _ (λ b is. where_holds (not (xattr_nid b == 0)) _ (λ some. same_holds _ _ (attribute_at ino b is some))))

  pub placed_meets_attribute_rule : is_rule_met image 12 ≡ true
  unfolding defects
  placed_meets_attribute_rule = met_of (attribute_parts image) attributes_clear
