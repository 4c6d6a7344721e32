-- Files laid out in an image: the rules on addresses, on the marks of the segment table and on summaries.
use Rattle.std.proofs.Common.{◌≡◌, inl, inr, ℕ, ◌+◌, ◌<◌, ◌≤◌, [], ◌++◌, Bool, true, false, ◌==◌, ◌&&◌, ◌||◌, not, nat_lt, cond, Option, Some, None, subst, refl, sym, ap, ◌∙◌, ⊎_elim, arith}
use Rattle.std.specs.Prelude.{flat_map, unwrap_or, option_and_then}
use Rattle.std.specs.Option.{option_map_or}
use Rattle.std.proofs.lemmas.Bool.{and_parts, or_from, or_left, or_right, or_cases, eqb-true, eq-eqb, ne_eqb, not_from_true, not-true, cases_eq, cases_lt, le-ltb, lt-ltb, false≢true}
use Rattle.f2_bytes.specs.Bytes.{Image, block_at, count_below}
use Rattle.f2_bytes.specs.Superblock.{layout, is_main, is_loadable}
use Rattle.f2_bytes.specs.Checkpoint.{head, is_log_segment}
use Rattle.f2_bytes.specs.Journal.{NatEntry}
use Rattle.f2_bytes.specs.NodeAddressTable.{nat}
use Rattle.f2_bytes.specs.Node.{footer_nid, most_blocks, locate, address_count}
use Rattle.f2_bytes.specs.SegmentTable.{sit, is_block_valid, has_valid_block}
use Rattle.f2_bytes.specs.Summary.{summary, entry_type}
use Rattle.f2_bytes.specs.Tree.{nid_slot, tree_slot, is_inode}
use Rattle.f2_bytes.specs.Check.{nids, digit, part_defects, same, fails_where, where_true, of_value, part_by_one, slot_part, block_part, slots_with, nodes_with, nid_with, slot_with, spot_of, nid_of_spot, nid_wanted, none_value, is_data, is_node, is_address, is_marked, kind_at, type_comparison, address_parts, validity_parts, summary_parts, is_rule_met, defects}
use Rattle.f2_bytes.proofs.CheckLaws.{clear_from}
use Rattle.f2_bytes.proofs.CheckedUsed.{data_slot, node_entry}
use Rattle.f2_bytes.proofs.Counts.{counted}
use Rattle.f2_bytes.proofs.Finds.{find-least}
use Rattle.f2_bytes.proofs.Located.{locate_below}
use Rattle.f2_bytes.proofs.MovedSlots.{tree_slot-past}
use Rattle.f2_bytes.proofs.PartsHold.{Holds, same_holds, fails_holds, where_holds, value_holds, one_clear, blocks_clear, met_of}
use Rattle.f2_bytes.specs.FilePlaces.{FilePlaces, has_node, inode_at, HoldsFiles}
use Rattle.f2_mend.proofs.MainRange.{main_address}
use Rattle.f2_mend.proofs.PlaceFinds.{no_place, one_place}
use Rattle.f2_mend.proofs.PlacedReads.{same_bool, entry_of, file_inode, inode_file, file_below, node_below, read_file}
use Rattle.f2_mend.proofs.PlacedSlots.{nid_slot_placed, tree_slot_placed}
use Rattle.f2_mend.proofs.Sums.{count_none, count_once, sum_passing_only}

module _ (p : FilePlaces) (image : Image) (h : HoldsFiles p image) where
  -- ---- slots

  -- a slot that is no hole is that of a block below the limit
  pub slot_within : (ino k : ℕ) → p.has_file ino ≡ true → is_address (p.slot ino k) ≡ true → k < most_blocks
  slot_within ino k file address = elim (cases_lt k most_blocks) [
    | inl below ↦ below
    | inr past ↦
        let none : p.slot ino k ≡ 0 = sym (tree_slot_placed p image h ino file k) ∙ tree_slot-past image ino k past in
        absurd (false≢true (sym (ap is_address none) ∙ address))
  ]

  module _ (ino k : ℕ) (file : p.has_file ino ≡ true) (address : is_address (p.slot ino k) ≡ true) where
    abbrev slot_test : ℕ → ℕ → Bool
    slot_test other j = tree_slot image other j == p.slot ino k

    own_test : slot_test ino k ≡ true
    own_test = eq-eqb (tree_slot image ino k) (p.slot ino k) (tree_slot_placed p image h ino file k)

    only_test : (other j : ℕ) → is_inode image other ≡ true → slot_test other j ≡ true → (other ≡ ino) × (j ≡ k)
    only_test other j inode named =
        let here = inode_file p image h other inode in
        let at : p.slot ino k ≡ p.slot other j = sym (sym (tree_slot_placed p image h other here j) ∙ eqb-true (tree_slot image other j) (p.slot ino k) named) in
        let apart = h.slots_apart ino k other j file here address at in
        (sym apart.0, sym apart.1)

    pub slots_once : slots_with image (p.slot ino k) ≡ 1
    unfolding slots_with
    slots_once =
        sum_passing_only (λ other. count_below most_blocks (λ j. tree_slot image other j == p.slot ino k)) (is_inode image) (nids image) ino (file_below p image h ino file) (file_inode p image h ino file)
        (λ other low inode away. count_none (λ j. slot_test other j) most_blocks (λ j below named. away (only_test other j inode named).0))
        ∙ count_once (λ j. slot_test ino j) most_blocks k (slot_within ino k file address) own_test (λ j below named. (only_test ino j (file_inode p image h ino file) named).1)

    entry_off : (nid : ℕ) → option_map_or (λ e. e.address == p.slot ino k) (nat image nid) false ≡ true → ⊥
    entry_off nid named = go (nat image nid) refl
      where
        go : (o : Option NatEntry) → nat image nid ≡ o → ⊥
        go None is =
            let no : false ≡ true = rw is at named in
            false≢true no
        go (Some e) is =
            let here : (e.address == p.slot ino k) ≡ true = rw is at named in
            let entry = entry_of p image h nid e is in
            h.slots_off_nodes ino k e.ino entry.offset file address entry.node (sym (eqb-true e.address (p.slot ino k) here) ∙ entry.address ∙ ap p.address (sym entry.number))

    pub no_nodes : nodes_with image (p.slot ino k) ≡ 0
    unfolding nodes_with
    no_nodes = count_none (λ nid. option_map_or (λ e. e.address == p.slot ino k) (nat image nid) false) (nids image) (λ nid low named. entry_off nid named)

    -- the file and block that is found for its address
    pub slot_found : slot_with image (p.slot ino k) ≡ Some (ino, k)
    unfolding slot_with
    slot_found =
        one_place (λ place. tree_slot image place.0 place.1 == p.slot ino k) (is_inode image) (nids image) most_blocks ino k (file_below p image h ino file) (file_inode p image h ino file) (slot_within ino k file address) own_test
        (λ other j low inode below named. only_test other j inode named)

  -- ---- nodes

  module _ (ino offset : ℕ) (node : has_node p ino offset ≡ true) where
    abbrev stands : ℕ
    stands = p.address (p.nid ino offset)

    own_entry : option_map_or (λ e. e.address == stands) (nat image (p.nid ino offset)) false ≡ true
    own_entry =
        let entry = h.entries ino offset node in
        ap (λ o. option_map_or (λ e. e.address == stands) o false) entry.1 ∙ eq-eqb entry.0.address stands entry.3

    pub node_counted : is_node image stands ≡ true
    unfolding nodes_with
    node_counted = lt-ltb 0 (nodes_with image stands) (counted (λ nid. option_map_or (λ e. e.address == stands) (nat image nid) false) (nids image) (p.nid ino offset) (node_below p image h ino offset node) own_entry)

    -- a node that stands there has the footer's number
    only_entry : (nid : ℕ) → option_map_or (λ e. e.address == stands) (nat image nid) false ≡ true → nid ≡ p.nid ino offset
    only_entry nid named = go (nat image nid) refl
      where
        go : (o : Option NatEntry) → nat image nid ≡ o → nid ≡ p.nid ino offset
        go None is =
            let no : false ≡ true = rw is at named in
            absurd (false≢true no)
        go (Some e) is =
            let here : (e.address == stands) ≡ true = rw is at named in
            let entry = entry_of p image h nid e is in
            let same_address : p.address (p.nid e.ino entry.offset) ≡ p.address (p.nid ino offset) = ap p.address entry.number ∙ sym entry.address ∙ eqb-true e.address (p.address (p.nid ino offset)) here in
            sym entry.number
            ∙ sym (h.footer_nids e.ino entry.offset entry.node)
            ∙ ap (λ a. footer_nid (block_at image a)) same_address
            ∙ h.footer_nids ino offset node

    -- it is the one that is found for its address, and no block of a file is
    pub nid_found : nid_with image stands ≡ Some (p.nid ino offset)
    unfolding nid_with
    nid_found =
        find-least (λ nid. option_map_or (λ e. e.address == stands) (nat image nid) false) (nids image) (p.nid ino offset) (node_below p image h ino offset node) own_entry
        (λ m before. false_of (option_map_or (λ e. e.address == stands) (nat image m) false) (λ named. (let same = only_entry m named in omega (arith, same, before))))
      where
        false_of : (b : Bool) → (b ≡ true → ⊥) → b ≡ false
        false_of true never = absurd (never refl)
        false_of false never = refl

    pub no_slot_found : is_loadable image ≡ true → slot_with image stands ≡ None
    unfolding slot_with
    no_slot_found loads =
        no_place (λ place. tree_slot image place.0 place.1 == stands) (is_inode image) (nids image) most_blocks (λ other j low inode below named.
        let file = inode_file p image h other inode in
        let here : p.slot other j ≡ stands = sym (tree_slot_placed p image h other file j) ∙ eqb-true (tree_slot image other j) stands named in
        h.slots_off_nodes other j ino offset file (ap is_address here ∙ main_address image loads stands (h.node_lands ino offset node)) node here)

  -- ---- the rule on addresses

  abbrev tree_address : ℕ → ℕ → Bool
  tree_address ino k = is_inode image ino && is_address (tree_slot image ino k)

  tree_file : (ino k : ℕ) → tree_address ino k ≡ true → (p.has_file ino ≡ true) × (tree_slot image ino k ≡ p.slot ino k) × (is_address (p.slot ino k) ≡ true)
  tree_file ino k made =
      let parts = and_parts (is_inode image ino) (is_address (tree_slot image ino k)) made in
      let file = inode_file p image h ino parts.0 in
      let slot = tree_slot_placed p image h ino file k in
      (file, slot, sym (ap is_address slot) ∙ parts.1)

  addresses_clear : flat_map part_defects (address_parts image) ≡ []
  unfolding address_parts
  addresses_clear = λ i. first i ++ (second i ++ [])
    where
      first : part_defects (slot_part image 1 (λ address. fails_where (not (is_main (layout image) address)) address (layout image).main)) ≡ []
      first =
          clear_from (slot_part image 1 (λ address. fails_where (not (is_main (layout image) address)) address (layout image).main)) (λ ino k low within.
          where_holds (tree_address ino k) _ (λ made.
          let t = tree_file ino k made in
          fails_holds _ _ _ (not_from_true _ (ap (is_main (layout image)) t.1 ∙ h.slot_lands ino k t.0 t.2))))

      second : part_defects (slot_part image 2 (λ address. same (slots_with image address + nodes_with image address) 1)) ≡ []
      second =
          clear_from (slot_part image 2 (λ address. same (slots_with image address + nodes_with image address) 1)) (λ ino k low within.
          where_holds (tree_address ino k) _ (λ made.
          let t = tree_file ino k made in
          let slots : slots_with image (tree_slot image ino k) ≡ 1 = ap (slots_with image) t.1 ∙ slots_once ino k t.0 t.2 in
          let nodes : nodes_with image (tree_slot image ino k) ≡ 0 = ap (nodes_with image) t.1 ∙ no_nodes ino k t.0 t.2 in
          same_holds _ _ (omega (arith, slots, nodes))))

  pub placed_meets_address_rule : is_rule_met image 4 ≡ true
  unfolding defects
  placed_meets_address_rule = met_of (address_parts image) addresses_clear

  -- ---- the rule on marks

  module _ (loads : is_loadable image ≡ true) where
    data_of : (ino k : ℕ) → p.has_file ino ≡ true → is_address (p.slot ino k) ≡ true → is_data image (p.slot ino k) ≡ true
    data_of ino k file address =
        let once = slots_once ino k file address in
        lt-ltb 0 (slots_with image (p.slot ino k)) (omega (arith, once))

    marked_used : (x : ℕ) → is_main (layout image) x ≡ true → is_marked image x ≡ true → (is_data image x || is_node image x) ≡ true
    marked_used x main marked = elim (h.no_other_mark x main marked) [
      | inl t ↦ or_right (is_data image x) (is_node image x) (subst (λ a. is_node image a ≡ true) t.3 (node_counted t.0 t.1 t.2))
      | inr t ↦ or_left (is_data image x) (is_node image x) (subst (λ a. is_data image a ≡ true) t.3 (data_of t.0 t.1 t.2 (ap is_address t.3 ∙ main_address image loads x main)))
    ]

    -- a block of a file, and a node, by its address
    data_from : (x : ℕ) → is_main (layout image) x ≡ true → is_data image x ≡ true → (ino : ℕ) × (k : ℕ) × (p.has_file ino ≡ true) × (is_address (p.slot ino k) ≡ true) × (p.slot ino k ≡ x)
    data_from x main d =
        let t = data_slot image x d in
        let file = inode_file p image h t.0 t.2 in
        let here : p.slot t.0 t.1 ≡ x = sym (tree_slot_placed p image h t.0 file t.1) ∙ t.4 in
        (t.0, t.1, file, ap is_address here ∙ main_address image loads x main, here)

    node_from : (x : ℕ) → is_node image x ≡ true → (ino : ℕ) × (offset : ℕ) × (has_node p ino offset ≡ true) × (p.address (p.nid ino offset) ≡ x)
    node_from x n =
        let t = node_entry image x n in
        let entry = entry_of p image h t.0 t.1 t.2 in
        (t.1.ino, entry.offset, entry.node, ap p.address entry.number ∙ sym entry.address ∙ t.3)

    used_marked : (x : ℕ) → is_main (layout image) x ≡ true → (is_data image x || is_node image x) ≡ true → is_marked image x ≡ true
    used_marked x main used =
        ⊎_elim
        (λ d. let t = data_from x main d in subst (λ a. is_marked image a ≡ true) t.4 (h.slot_marks t.0 t.1 t.2 t.3))
        (λ n. let t = node_from x n in subst (λ a. is_marked image a ≡ true) t.3 (h.node_marks t.0 t.1 t.2))
        (or_cases (is_data image x) (is_node image x) used)

    type_holds : (x : ℕ) → is_main (layout image) x ≡ true → Holds (type_comparison image x)
    type_holds x main = go (is_data image x) refl (is_node image x) refl
      where
        go : (d : Bool) → is_data image x ≡ d → (n : Bool) → is_node image x ≡ n → Holds (type_comparison image x)
        go true d n e =
            let t = data_from x main d in
            let most : kind_at image x ≤ 2 = subst (λ a. kind_at image a ≤ 2) t.4 (h.slot_kinds t.0 t.1 t.2 t.3) in
            rw d (fails_holds (nat_lt 2 (kind_at image x)) (kind_at image x) 0 (le-ltb 2 (kind_at image x) most))
        go false d true e =
            let t = node_from x e in
            let kinds : (3 ≤ kind_at image x) × (kind_at image x ≤ 5) = subst (λ a. (3 ≤ kind_at image a) × (kind_at image a ≤ 5)) t.3 (h.node_kinds t.0 t.1 t.2) in
            rw (d, e) (fails_holds (nat_lt (kind_at image x) 3 || nat_lt 5 (kind_at image x)) (kind_at image x) 3 (or_from _ _ (le-ltb (kind_at image x) 3 kinds.0) (le-ltb 5 (kind_at image x) kinds.1)))
        go false d false e = rw (d, e) (λ c is. absurd (cc is))

    validity_clear : flat_map part_defects (validity_parts image) ≡ []
    unfolding validity_parts
    validity_clear = λ i. first i ++ (second i ++ (third i ++ []))
      where
        first : part_defects (block_part image 1 (λ address. same (digit (is_marked image address)) (digit (is_data image address || is_node image address)))) ≡ []
        first = blocks_clear image image 1 (λ address. same (digit (is_marked image address)) (digit (is_data image address || is_node image address))) refl (λ x main low.
            same_holds _ _ (ap digit (same_bool (is_marked image x) (is_data image x || is_node image x) (marked_used x main) (used_marked x main))))

        second : part_defects (part_by_one 2 (layout image).segments (λ segment. same (sit image segment).count (count_below 512 (is_block_valid image segment)))) ≡ []
        second = one_clear 2 (layout image).segments (λ segment. same (sit image segment).count (count_below 512 (is_block_valid image segment))) (λ segment low. same_holds _ _ (h.mark_counts segment low))

        third : part_defects (block_part image 3 (λ address. where_true (is_marked image address) (type_comparison image address))) ≡ []
        third = blocks_clear image image 3 (λ address. where_true (is_marked image address) (type_comparison image address)) refl (λ x main low.
            where_holds (is_marked image x) (type_comparison image x) (λ marked. type_holds x main))

    pub placed_meets_validity_rule : is_rule_met image 5 ≡ true
    unfolding defects
    placed_meets_validity_rule = met_of (validity_parts image) validity_clear

    -- ---- the rule on summaries

    spot_found : (ino k : ℕ) (spot : ℕ × ℕ) → p.has_file ino ≡ true → locate k (address_count (inode_at p image ino)) ≡ Some spot → spot_of image (ino, k) ≡ spot
    spot_found ino k spot file l =
        ap (λ o. unwrap_or (option_and_then (λ b. locate k (address_count b)) o) (0, 0)) (read_file p image h ino file)
        ∙ ap (λ o. unwrap_or o (0, 0)) l

    spot_nid : (ino k : ℕ) (spot : ℕ × ℕ) → p.has_file ino ≡ true → locate k (address_count (inode_at p image ino)) ≡ Some spot → nid_of_spot image (ino, k) ≡ p.nid ino spot.0
    spot_nid ino k spot file l =
        ap (λ s. cond (s.0 == 0) ino (nid_slot image ino s.0)) (spot_found ino k spot file l) ∙ elim (cases_eq spot.0 0) [
          | inl first ↦ ap (λ b. cond b ino (nid_slot image ino spot.0)) (eq-eqb spot.0 0 first) ∙ sym (h.numbers ino file).1 ∙ ap (p.nid ino) (sym first)
          | inr away ↦
              ap (λ b. cond b ino (nid_slot image ino spot.0)) (ne_eqb spot.0 0 away)
              ∙ nid_slot_placed p image h ino file spot.0 away (locate_below k (address_count (inode_at p image ino)) spot l)
        ]

    -- what is wanted of the summary of a block, and of a node
    slot_wanted : (ino k : ℕ) → p.has_file ino ≡ true → is_address (p.slot ino k) ≡ true → (summary image (p.slot ino k)).nid ≡ nid_wanted image (p.slot ino k)
    slot_wanted ino k file address =
        let t = h.spots ino k file (and_parts _ _ address).0 in
        (h.slot_summaries ino k t.1 file address t.2).0
        ∙ sym (spot_nid ino k t.1 file t.2)
        ∙ sym (ap (λ o. option_map_or (nid_of_spot image) o (unwrap_or (nid_with image (p.slot ino k)) none_value)) (slot_found ino k file address))

    node_wanted : (ino offset : ℕ) → has_node p ino offset ≡ true → (summary image (p.address (p.nid ino offset))).nid ≡ nid_wanted image (p.address (p.nid ino offset))
    node_wanted ino offset node =
        h.node_summaries ino offset node
        ∙ sym (λ i. option_map_or (nid_of_spot image) (no_slot_found ino offset node loads i) (unwrap_or (nid_found ino offset node i) none_value))

    wanted : (x : ℕ) → is_main (layout image) x ≡ true → is_marked image x ≡ true → (summary image x).nid ≡ nid_wanted image x
    wanted x main marked = elim (h.no_other_mark x main marked) [
      | inl t ↦ subst (λ a. (summary image a).nid ≡ nid_wanted image a) t.3 (node_wanted t.0 t.1 t.2)
      | inr t ↦ subst (λ a. (summary image a).nid ≡ nid_wanted image a) t.3 (slot_wanted t.0 t.1 t.2 (ap is_address t.3 ∙ main_address image loads x main))
    ]

    place_at_slot : (ino k : ℕ) → p.has_file ino ≡ true → is_address (p.slot ino k) ≡ true → (place : ℕ × ℕ) → slot_with image (p.slot ino k) ≡ Some place → (summary image (p.slot ino k)).place ≡ (spot_of image place).1
    place_at_slot ino k file address place found =
        let t = h.spots ino k file (and_parts _ _ address).0 in
        let one : Some (ino, k) ≡ Some place = sym (slot_found ino k file address) ∙ found in
        let own : (ino, k) ≡ place = ap (λ o. elim o [ Some z ↦ z | None ↦ place ]) one in
        (h.slot_summaries ino k t.1 file address t.2).1
        ∙ ap (λ (s : ℕ × ℕ). s.1) (sym (spot_found ino k t.1 file t.2))
        ∙ ap (λ (q : ℕ × ℕ). (spot_of image q).1) own

    place_at_node : (ino offset : ℕ) → has_node p ino offset ≡ true → (place : ℕ × ℕ) → slot_with image (p.address (p.nid ino offset)) ≡ Some place → ⊥
    place_at_node ino offset node place found = cc (sym (no_slot_found ino offset node loads) ∙ found)

    placed_at : (x : ℕ) → is_main (layout image) x ≡ true → is_marked image x ≡ true → (place : ℕ × ℕ) → slot_with image x ≡ Some place → (summary image x).place ≡ (spot_of image place).1
    placed_at x main marked place found = elim (h.no_other_mark x main marked) [
      | inl t ↦ absurd (place_at_node t.0 t.1 t.2 place (ap (slot_with image) t.3 ∙ found))
      | inr t ↦
          ap (λ a. (summary image a).place) (sym t.3)
          ∙ place_at_slot t.0 t.1 t.2 (ap is_address t.3 ∙ main_address image loads x main) place (ap (slot_with image) t.3 ∙ found)
    ]

    summaries_clear : flat_map part_defects (summary_parts image) ≡ []
    unfolding summary_parts
    summaries_clear = λ i. first i ++ (second i ++ (third i ++ []))
      where
        first : part_defects (block_part image 1 (λ address. where_true (is_marked image address) (same (summary image address).nid (nid_wanted image address)))) ≡ []
        first = blocks_clear image image 1 (λ address. where_true (is_marked image address) (same (summary image address).nid (nid_wanted image address))) refl (λ x main low.
            where_holds (is_marked image x) _ (λ marked. same_holds _ _ (wanted x main marked)))

        second : part_defects (block_part image 2 (λ address. where_true (is_marked image address) (of_value (slot_with image address) (λ place. same (summary image address).place (spot_of image place).1)))) ≡ []
        second =
            blocks_clear image image 2 (λ address. where_true (is_marked image address) (of_value (slot_with image address) (λ place. same (summary image address).place (spot_of image place).1))) refl (λ x main low.
            where_holds (is_marked image x) _ (λ marked. value_holds (slot_with image x) _ (λ place found. same_holds _ _ (placed_at x main marked place found))))

        typed : ℕ → Bool
        typed segment = has_valid_block image segment && not (is_log_segment (head image) segment)

        third : part_defects (part_by_one 3 (layout image).segments (λ segment. where_true (typed segment) (same (entry_type (block_at image ((layout image).ssa + segment))) (digit (nat_lt 2 (sit image segment).kind))))) ≡ []
        third =
            one_clear 3 (layout image).segments (λ segment. where_true (typed segment) (same (entry_type (block_at image ((layout image).ssa + segment))) (digit (nat_lt 2 (sit image segment).kind)))) (λ segment low.
            where_holds (typed segment) _ (λ made.
            let parts = and_parts (has_valid_block image segment) (not (is_log_segment (head image) segment)) made in
            same_holds _ _ (h.entry_types segment low parts.0 (not-true _ parts.1))))

    pub placed_meets_summary_rule : is_rule_met image 6 ≡ true
    unfolding defects
    placed_meets_summary_rule = met_of (summary_parts image) summaries_clear
