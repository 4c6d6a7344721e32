-- Files laid out in an image: the rule on the checkpoint's counts, and what an inode counts.
use Rattle.std.proofs.Common.{◌≡◌, inl, inr, ℕ, ◌+◌, ◌-◌, ◌<◌, ◌≤◌, [], ◌++◌, Bool, true, false, ◌==◌, ◌&&◌, not, nat_le, cond, get_or, filter, Option, Some, None, sum_by, subst, refl, sym, ap, ◌∙◌, arith}
use Rattle.std.specs.Prelude.{flat_map, is_some}
use Rattle.std.specs.Option.{option_map_or}
use Rattle.std.proofs.lemmas.Bool.{and_parts, and_from, eqb-true, eq-eqb, leb-true, false≢true}
use Rattle.f2_bytes.specs.Bytes.{Image, numbers_below, count_below}
use Rattle.f2_bytes.specs.Superblock.{layout}
use Rattle.f2_bytes.specs.Journal.{NatEntry}
use Rattle.f2_bytes.specs.NodeAddressTable.{nid_limit, nat}
use Rattle.f2_bytes.specs.Node.{blocks, is_regular, ext_fofs, ext_addr, ext_len, most_blocks, offset_limit, attribute_offset}
use Rattle.f2_bytes.specs.Tree.{tree_slot, is_inode}
use Rattle.f2_bytes.specs.Check.{nids, inode_of, used_slots, extent_found, digit, part_defects, same, of_value, count_parts, inode_parts, is_rule_met, defects}
use Rattle.f2_bytes.proofs.AllPlaces.{sum_filter_same}
use Rattle.f2_bytes.proofs.CheckLaws.{clear_from}
use Rattle.f2_bytes.proofs.CheckedNodes.{no_part}
use Rattle.f2_bytes.proofs.PartsHold.{same_holds, where_holds, value_holds, one_clear, single_clear, met_of}
use Rattle.f2_bytes.proofs.SameParts.{sum_same, count_same}
use Rattle.f2_bytes.specs.FilePlaces.{FilePlaces, has_node, nodes_of, slots_of, over_files, HoldsFiles}
use Rattle.f2_mend.proofs.PlacedReads.{entry_of, nodes_apart, same_inode, file_below, node_below, inode_from}
use Rattle.f2_mend.proofs.PlacedSlots.{attribute_past, tree_slot_placed}
use Rattle.f2_mend.proofs.Sums.{sum_none, sum_only, sum_passing, sum_both, sum_turned}

false_of : (b : Bool) → (b ≡ true → ⊥) → b ≡ false
false_of true never = absurd (never refl)
false_of false never = refl

-- a sum under a condition
sum_under : (b : Bool) (f : ℕ → ℕ) (n : ℕ) → cond b (sum_by f (numbers_below n)) 0 ≡ sum_by (λ x. cond b (f x) 0) (numbers_below n)
sum_under true f n = refl
sum_under false f n = sym (sum_none (λ x. 0) n (λ j low. refl))

module _ (p : FilePlaces) (image : Image) (h : HoldsFiles p image) where
  abbrev limit : ℕ
  limit = nid_limit (layout image)

  -- the entry of a nid is one of a file
  abbrev is_of : ℕ → ℕ → Bool
  is_of ino nid = option_map_or (λ e. e.ino == ino) (nat image nid) false

  of_entry : (ino nid : ℕ) → is_of ino nid ≡ true → (e : NatEntry) × (nat image nid ≡ Some e) × (e.ino ≡ ino)
  of_entry ino nid here = go (nat image nid) refl
    where
      go : (o : Option NatEntry) → nat image nid ≡ o → (e : NatEntry) × (nat image nid ≡ Some e) × (e.ino ≡ ino)
      go None is =
          let no : false ≡ true = rw is at here in
          absurd (false≢true no)
      go (Some e) is =
          let own : (e.ino == ino) ≡ true = rw is at here in
          (e, is, eqb-true e.ino ino own)

  -- ---- the nodes of a file

  module _ (ino : ℕ) where
    abbrev stands_at : ℕ → ℕ → Bool
    stands_at offset nid = has_node p ino offset && (p.nid ino offset == nid)

    unit : ℕ → ℕ → ℕ
    unit offset nid = digit (stands_at offset nid)

    unit-none : (offset nid : ℕ) → (stands_at offset nid ≡ true → ⊥) → unit offset nid ≡ 0
    unfolding unit
    unit-none offset nid never = ap digit (false_of (stands_at offset nid) never)

    unit-one : (offset nid : ℕ) → stands_at offset nid ≡ true → unit offset nid ≡ 1
    unfolding unit
    unit-one offset nid here = ap digit here

    stands_of : (offset nid : ℕ) → stands_at offset nid ≡ true → is_of ino nid ≡ true
    stands_of offset nid here =
        let parts = and_parts (has_node p ino offset) (p.nid ino offset == nid) here in
        let entry = h.entries ino offset parts.0 in
        let is : nat image nid ≡ Some entry.0 = ap (nat image) (sym (eqb-true (p.nid ino offset) nid parts.1)) ∙ entry.1 in
        ap (λ o. option_map_or (λ e. e.ino == ino) o false) is ∙ eq-eqb entry.0.ino ino entry.2

    stands_once : (o j nid : ℕ) → stands_at o nid ≡ true → stands_at j nid ≡ true → o ≡ j
    stands_once o j nid first second =
        let a = and_parts (has_node p ino o) (p.nid ino o == nid) first in
        let b = and_parts (has_node p ino j) (p.nid ino j == nid) second in
        (nodes_apart p image h ino o ino j a.0 b.0 (eqb-true (p.nid ino o) nid a.1 ∙ sym (eqb-true (p.nid ino j) nid b.1))).1

    -- each entry is that of one offset
    by_offset : (nid : ℕ) → digit (is_of ino nid) ≡ sum_by (λ o. unit o nid) (numbers_below offset_limit) + unit attribute_offset nid
    by_offset nid = go (is_of ino nid) refl
      where
        go : (b : Bool) → is_of ino nid ≡ b → digit (is_of ino nid) ≡ sum_by (λ o. unit o nid) (numbers_below offset_limit) + unit attribute_offset nid
        go false none =
            let zero_at = ap digit none in
            let slots = sum_none (λ o. unit o nid) offset_limit (λ o low. unit-none o nid (λ here. false≢true (sym none ∙ stands_of o nid here))) in
            let attribute = unit-none attribute_offset nid (λ here. false≢true (sym none ∙ stands_of attribute_offset nid here)) in
            omega (arith, zero_at, slots, attribute)
        go true some =
            let t = of_entry ino nid some in
            let entry = entry_of p image h nid t.0 t.1 in
            let node : has_node p ino entry.offset ≡ true = subst (λ i. has_node p i entry.offset ≡ true) t.2 entry.node in
            let number : p.nid ino entry.offset ≡ nid = ap (λ i. p.nid i entry.offset) (sym t.2) ∙ entry.number in
            let here : stands_at entry.offset nid ≡ true = and_from (has_node p ino entry.offset) (p.nid ino entry.offset == nid) node (eq-eqb (p.nid ino entry.offset) nid number) in
            let one_at = ap digit some in
            let one = unit-one entry.offset nid here in
            elim (h.offsets ino entry.offset node) [
              | inl low ↦
                  let slots = sum_only (λ o. unit o nid) offset_limit entry.offset low (λ o inside away. unit-none o nid (λ again. away (stands_once o entry.offset nid again here))) in
                  let attribute = unit-none attribute_offset nid (λ again. attribute_past (subst (λ n. n < offset_limit) (stands_once entry.offset attribute_offset nid here again) low)) in
                  omega (arith, one_at, one, slots, attribute)
              | inr at_end ↦
                  let slots = sum_none (λ o. unit o nid) offset_limit (λ o inside. unit-none o nid (λ again. attribute_past (subst (λ n. n < offset_limit) (stands_once o entry.offset nid again here ∙ at_end) inside))) in
                  let attribute : unit attribute_offset nid ≡ 1 = ap (λ o. unit o nid) (sym at_end) ∙ one in
                  omega (arith, one_at, slots, attribute)
            ]

    -- and each offset with a node has one entry
    by_nid : (offset : ℕ) → sum_by (unit offset) (numbers_below limit) ≡ digit (has_node p ino offset)
    by_nid offset = go (has_node p ino offset) refl
      where
        go : (b : Bool) → has_node p ino offset ≡ b → sum_by (unit offset) (numbers_below limit) ≡ digit (has_node p ino offset)
        go false none =
            sum_none (unit offset) limit (λ nid low. unit-none offset nid (λ here. false≢true (sym none ∙ (and_parts (has_node p ino offset) (p.nid ino offset == nid) here).0)))
            ∙ sym (ap digit none)
        go true node =
            sum_only (unit offset) limit (p.nid ino offset) (node_below p image h ino offset node)
            (λ nid low away. unit-none offset nid (λ here. away (sym (eqb-true (p.nid ino offset) nid (and_parts (has_node p ino offset) (p.nid ino offset == nid) here).1))))
            ∙ unit-one offset (p.nid ino offset) (and_from (has_node p ino offset) (p.nid ino offset == p.nid ino offset) node (eq-eqb (p.nid ino offset) (p.nid ino offset) refl))
            ∙ sym (ap digit node)

    pub file_nodes : count_below limit (is_of ino) ≡ nodes_of p ino
    unfolding nodes_of
    file_nodes =
        let all : count_below limit (is_of ino) ≡ sum_by (λ nid. sum_by (λ o. unit o nid) (numbers_below offset_limit) + unit attribute_offset nid) (numbers_below limit)
        = sum_same (λ nid. digit (is_of ino nid)) (λ nid. sum_by (λ o. unit o nid) (numbers_below offset_limit) + unit attribute_offset nid) limit (λ nid low. by_offset nid) in
        let parts = sum_both (λ nid. sum_by (λ o. unit o nid) (numbers_below offset_limit)) (unit attribute_offset) limit in
        let turned = sum_turned (λ nid o. unit o nid) limit offset_limit in
        let slots : sum_by (λ o. sum_by (λ nid. unit o nid) (numbers_below limit)) (numbers_below offset_limit) ≡ count_below offset_limit (has_node p ino)
        = sum_same (λ o. sum_by (unit o) (numbers_below limit)) (λ o. digit (has_node p ino o)) offset_limit (λ o low. by_nid o) in
        let attribute = by_nid attribute_offset in
        omega (arith, all, parts, turned, slots, attribute)

  -- ---- the slots of a file

  pub file_slots : (ino : ℕ) → p.has_file ino ≡ true → used_slots image ino ≡ slots_of p ino
  unfolding slots_of
  file_slots ino file = count_same (λ k. not (tree_slot image ino k == 0)) (λ k. not (p.slot ino k == 0)) most_blocks (λ k low. ap (λ a. not (a == 0)) (tree_slot_placed p image h ino file k))

  -- ---- all nodes

  each_node : ℕ → ℕ → ℕ
  each_node ino nid = cond (p.has_file ino) (digit (is_of ino nid)) 0

  one_file : (nid : ℕ) → sum_by (λ ino. each_node ino nid) (numbers_below limit) ≡ digit (is_some (nat image nid))
  unfolding each_node
  one_file nid = go (nat image nid) refl
    where
      none_of : (ino : ℕ) → (is_of ino nid ≡ true → ⊥) → cond (p.has_file ino) (digit (is_of ino nid)) 0 ≡ 0
      none_of ino never = ap (λ n. cond (p.has_file ino) n 0) (ap digit (false_of (is_of ino nid) never)) ∙ both (p.has_file ino)
        where
          both : (b : Bool) → ◌≡◌ {A = ℕ} (cond b 0 0) 0
          both true = refl
          both false = refl

      go : (o : Option NatEntry) → nat image nid ≡ o → sum_by (λ ino. cond (p.has_file ino) (digit (is_of ino nid)) 0) (numbers_below limit) ≡ digit (is_some (nat image nid))
      go None is =
          sum_none (λ ino. cond (p.has_file ino) (digit (is_of ino nid)) 0) limit (λ ino low. none_of ino (λ here. (let t = of_entry ino nid here in cc (sym is ∙ t.1))))
          ∙ sym (ap (λ o. digit (is_some o)) is)
      go (Some e) is =
          let entry = entry_of p image h nid e is in
          let file = h.files e.ino entry.offset entry.node in
          let own : is_of e.ino nid ≡ true = ap (λ o. option_map_or (λ x. x.ino == e.ino) o false) is ∙ eq-eqb e.ino e.ino refl in
          sum_only (λ ino. cond (p.has_file ino) (digit (is_of ino nid)) 0) limit e.ino (file_below p image h e.ino file)
          (λ ino low away. none_of ino (λ here.
          let t = of_entry ino nid here in
          let same_entry : e.ino ≡ t.0.ino = ap (λ o. option_map_or (λ x. x.ino) o e.ino) (sym is ∙ t.1) in
          away (sym (same_entry ∙ t.2))))
          ∙ ap (λ b. cond b (digit (is_of e.ino nid)) 0) file
          ∙ ap digit own
          ∙ sym (ap (λ o. digit (is_some o)) is)

  pub all_nodes : over_files p image (nodes_of p) ≡ count_below limit (λ nid. is_some (nat image nid))
  unfolding each_node
  all_nodes =
      sum_passing (nodes_of p) p.has_file limit
      ∙ sum_same (λ ino. cond (p.has_file ino) (nodes_of p ino) 0) (λ ino. sum_by (each_node ino) (numbers_below limit)) limit
      (λ ino low. ap (λ n. cond (p.has_file ino) n 0) (sym (file_nodes ino)) ∙ sum_under (p.has_file ino) (λ nid. digit (is_of ino nid)) limit)
      ∙ sum_turned each_node limit limit
      ∙ sum_same (λ nid. sum_by (λ ino. each_node ino nid) (numbers_below limit)) (λ nid. digit (is_some (nat image nid))) limit (λ nid low. one_file nid)

  pub all_slots : over_files p image (slots_of p) ≡ sum_by (used_slots image) (filter (is_inode image) (numbers_below limit))
  all_slots =
      sum_filter_same (slots_of p) (used_slots image) p.has_file limit (λ ino low file. sym (file_slots ino file))
      ∙ (λ i. sum_by (used_slots image) (filter (λ n. sym (same_inode p image h n) i) (numbers_below limit)))

  all_files : count_below limit p.has_file ≡ count_below limit (is_inode image)
  all_files = λ i. count_below limit (λ n. sym (same_inode p image h n) i)

  -- ---- the rule on counts

  counts_clear : flat_map part_defects (count_parts image) ≡ []
  unfolding count_parts
  counts_clear = λ i. first i ++ (second i ++ (third i ++ (fourth i ++ [])))
    where
      first : part_defects (get_or (count_parts image) 0 no_part) ≡ []
      first = single_clear 1 _ (same_holds _ _ (h.valid_blocks ∙ (λ i. all_nodes i + all_slots i)))

      second : part_defects (get_or (count_parts image) 1 no_part) ≡ []
      second = single_clear 2 _ (same_holds _ _ (h.valid_nodes ∙ all_nodes))

      third : part_defects (get_or (count_parts image) 2 no_part) ≡ []
      third = single_clear 3 _ (same_holds _ _ (h.valid_inodes ∙ all_files))

      fourth : part_defects (get_or (count_parts image) 3 no_part) ≡ []
      fourth = single_clear 4 _ (same_holds _ _ h.free_segments)

  pub placed_meets_count_rule : is_rule_met image 7 ≡ true
  unfolding defects
  placed_meets_count_rule = met_of (count_parts image) counts_clear

  -- ---- the parts of the rule on inodes but that on links

  pub block_counts_clear : part_defects (get_or (inode_parts image) 0 no_part) ≡ []
  unfolding inode_parts
  block_counts_clear =
      one_clear 1 (nids image) (λ ino. of_value (inode_of image ino) (λ b. same (blocks b) (count_below (nids image) (is_of ino) + used_slots image ino))) (λ ino low.
      value_holds (inode_of image ino) _ (λ b is.
      let t = inode_from p image h ino b is in
      same_holds _ _ (ap blocks t.1 ∙ h.sizes ino t.0 ∙ (λ i. sym (file_nodes ino) i + sym (file_slots ino t.0) i))))

  pub extents_clear : part_defects (get_or (inode_parts image) 2 no_part) ≡ []
  unfolding inode_parts
  extents_clear =
      clear_from (get_or (inode_parts image) 2 no_part) (λ ino k low inside.
      value_holds (inode_of image ino) _ (λ b is.
      where_holds (is_regular b && nat_le (ext_fofs b) k) _ (λ made.
      let t = inode_from p image h ino b is in
      let parts = and_parts (is_regular b) (nat_le (ext_fofs b) k) made in
      let within : k < ext_fofs b + ext_len b = subst (λ n. k < n) (ap (λ o. option_map_or (λ x. ext_fofs x + ext_len x) o 0) is) inside in
      let slots : tree_slot image ino ≡ p.slot ino = λ i j. tree_slot_placed p image h ino t.0 j i in
      same_holds _ _
      (ap (λ s. extent_found b s k) slots
      ∙ subst (λ x. extent_found x (p.slot ino) k ≡ ext_addr x + k - ext_fofs x) (sym t.1)
      (h.extents ino k t.0 (sym (ap is_regular t.1) ∙ parts.0) (subst (λ x. ext_fofs x ≤ k) t.1 (leb-true (ext_fofs b) k parts.1)) (subst (λ x. k < ext_fofs x + ext_len x) t.1 within))))))
