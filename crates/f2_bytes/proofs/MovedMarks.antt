-- An image whose blocks moved: the rules on addresses and on the marks of the segment table.
use Rattle.std.proofs.Common.{◌≡◌, ℕ, ◌+◌, ◌<◌, inr, [], ◌++◌, Bool, true, false, ◌&&◌, ◌||◌, not, nat_lt, refl, sym, ap, ◌∙◌, arith}
use Rattle.std.specs.Prelude.{flat_map}
use Rattle.std.proofs.lemmas.Bool.{and_parts, not_from_true, or_from, le-ltb, false≢true}
use Rattle.f2_bytes.specs.Bytes.{Image, count_below}
use Rattle.f2_bytes.specs.Superblock.{layout, is_main}
use Rattle.f2_bytes.specs.Node.{most_blocks}
use Rattle.f2_bytes.specs.SegmentTable.{sit, is_block_valid}
use Rattle.f2_bytes.specs.Tree.{tree_slot, is_inode}
use Rattle.f2_bytes.specs.Check.{part_defects, same, fails_where, where_true, part_by_one, slot_part, block_part, digit, slots_with, nodes_with, is_data, is_node, is_address, is_marked, kind_at, type_comparison, is_checked, is_rule_met, defects, address_parts, validity_parts}
use Rattle.f2_bytes.specs.Moved.{IsMoved, is_used}
use Rattle.f2_bytes.proofs.CheckLaws.{clear_from}
use Rattle.f2_bytes.proofs.PartsHold.{Holds, same_holds, fails_holds, where_holds, one_clear, blocks_clear, met_of}
use Rattle.f2_bytes.proofs.CheckedUsed.{slot_once}
use Rattle.f2_bytes.proofs.MovedReads.{ReadsMoved}
use Rattle.f2_bytes.proofs.MovedOwners.{used_parts, slot_value, slots_with-moved, nodes_with-moved, data-moved, node-moved, used_from}

digits_same : (a b : Bool) → (a ≡ true → b ≡ true) → (b ≡ true → a ≡ true) → digit a ≡ digit b
digits_same true b up down = ap digit (sym (up refl))
digits_same false true up down = ap digit (down refl)
digits_same false false up down = refl

module _ (to : ℕ → ℕ) (image other : Image) (h : is_checked image ≡ true) (m : IsMoved to image other) (r : ReadsMoved to image other) where
  -- ---- addresses

  slot_lands : (ino k : ℕ) → is_inode other ino ≡ true → is_address (tree_slot other ino k) ≡ true → is_main (layout other) (tree_slot other ino k) ≡ true
  slot_lands ino k inode address =
      let old = sym (r.same_inode ino) ∙ inode in
      ap (λ l. is_main l (tree_slot other ino k)) r.same_layout
      ∙ ap (is_main (layout image)) (r.slot ino k old)
      ∙ r.slot_main ino k old (sym (r.same_is_address ino k old) ∙ address)

  slot_counted : (ino k : ℕ) → is_inode other ino ≡ true → k < most_blocks → is_address (tree_slot other ino k) ≡ true
      → slots_with other (tree_slot other ino k) + nodes_with other (tree_slot other ino k) ≡ 1
  slot_counted ino k inode within address =
      let old = sym (r.same_inode ino) ∙ inode in
      let a = tree_slot image ino k in
      let value = slot_value image h ino k old within in
      let once = slot_once image h ino k old within (sym (r.same_is_address ino k old) ∙ address) in
      let slots : slots_with other (tree_slot other ino k) ≡ slots_with image a = ap (slots_with other) (r.slot ino k old) ∙ slots_with-moved to image other h m r a value in
      let nodes : nodes_with other (tree_slot other ino k) ≡ nodes_with image a = ap (nodes_with other) (r.slot ino k old) ∙ nodes_with-moved to image other h m r a value in
      omega (arith, once, slots, nodes)

  pub addresses-moved : flat_map part_defects (address_parts other) ≡ []
  unfolding address_parts
  addresses-moved = λ i. first i ++ (second i ++ [])
    where
      first : part_defects (slot_part other 1 (λ address. fails_where (not (is_main (layout other) address)) address (layout other).main)) ≡ []
      first = clear_from (slot_part other 1 (λ address. fails_where (not (is_main (layout other) address)) address (layout other).main)) (λ ino k low within.
          where_holds (is_inode other ino && is_address (tree_slot other ino k)) _ (λ made.
          let parts = and_parts (is_inode other ino) (is_address (tree_slot other ino k)) made in
          fails_holds _ _ _ (not_from_true _ (slot_lands ino k parts.0 parts.1))))

      second : part_defects (slot_part other 2 (λ address. same (slots_with other address + nodes_with other address) 1)) ≡ []
      second = clear_from (slot_part other 2 (λ address. same (slots_with other address + nodes_with other address) 1)) (λ ino k low within.
          where_holds (is_inode other ino && is_address (tree_slot other ino k)) _ (λ made.
          let parts = and_parts (is_inode other ino) (is_address (tree_slot other ino k)) made in
          same_holds _ _ (slot_counted ino k parts.0 within parts.1)))

  -- ---- marks

  -- a marked block is in use, and a block in use is marked
  marked_used : (x : ℕ) → is_main (layout image) x ≡ true → is_marked other x ≡ true → (is_data other x || is_node other x) ≡ true
  marked_used x main marked =
      let from = m.marked x main marked in
      let used = used_parts image h from.0 from.1 in
      let both : (is_data other x || is_node other x) ≡ (is_data image from.0 || is_node image from.0)
      = ap (λ y. is_data other y || is_node other y) (sym from.2) ∙ (λ i. data-moved to image other h m r from.0 (inr from.1) i || node-moved to image other h m r from.0 (inr from.1) i) in
      both ∙ used.1

  used_marked : (x : ℕ) → is_main (layout image) x ≡ true → (is_data other x || is_node other x) ≡ true → is_marked other x ≡ true
  used_marked x main used =
      let from = used_from to image other h m r x main used in
      sym (ap (is_marked other) from.2) ∙ m.marks from.0 from.1

  -- its segment is of the type of the block
  type_holds : (x : ℕ) → is_main (layout image) x ≡ true → is_marked other x ≡ true → Holds (type_comparison other x)
  type_holds x main marked = go (is_data other x) refl (is_node other x) refl
    where
      from : (a : ℕ) × (is_used image a ≡ true) × (to a ≡ x)
      from = m.marked x main marked

      was_data : is_data other x ≡ true → is_data image from.0 ≡ true
      was_data d = sym (data-moved to image other h m r from.0 (inr from.1)) ∙ ap (is_data other) from.2 ∙ d

      was_node : is_node other x ≡ true → is_node image from.0 ≡ true
      was_node n = sym (node-moved to image other h m r from.0 (inr from.1)) ∙ ap (is_node other) from.2 ∙ n

      kind_here : kind_at other (to from.0) ≡ kind_at other x
      kind_here = ap (kind_at other) from.2

      go : (d : Bool) → is_data other x ≡ d → (n : Bool) → is_node other x ≡ n → Holds (type_comparison other x)
      go true d n e =
          let most = m.data_kinds from.0 from.1 (was_data d) in
          let here = kind_here in
          rw d (fails_holds (nat_lt 2 (kind_at other x)) (kind_at other x) 0 (le-ltb 2 (kind_at other x) (omega (arith, most, here))))
      go false d true e =
          let kinds = m.node_kinds from.0 (was_node e) in
          let low = kinds.0 in
          let high = kinds.1 in
          let here = kind_here in
          rw (d, e) (fails_holds (nat_lt (kind_at other x) 3 || nat_lt 5 (kind_at other x)) (kind_at other x) 3
          (or_from _ _ (le-ltb (kind_at other x) 3 (omega (arith, low, here))) (le-ltb 5 (kind_at other x) (omega (arith, high, here)))))
      go false d false e =
          let used = marked_used x main marked in
          let no : false ≡ true = rw (d, e) at used in
          absurd (false≢true no)

  pub validity-moved : flat_map part_defects (validity_parts other) ≡ []
  unfolding validity_parts
  validity-moved = λ i. first i ++ (second i ++ (third i ++ []))
    where
      first : part_defects (block_part other 1 (λ address. same (digit (is_marked other address)) (digit (is_data other address || is_node other address)))) ≡ []
      first = blocks_clear image other 1 (λ address. same (digit (is_marked other address)) (digit (is_data other address || is_node other address))) r.same_layout (λ x main low.
          same_holds _ _ (digits_same (is_marked other x) (is_data other x || is_node other x) (marked_used x main) (used_marked x main)))

      second : part_defects (part_by_one 2 (layout other).segments (λ segment. same (sit other segment).count (count_below 512 (is_block_valid other segment)))) ≡ []
      second = one_clear 2 (layout other).segments (λ segment. same (sit other segment).count (count_below 512 (is_block_valid other segment))) (λ segment low.
          let same_segments : (layout other).segments ≡ (layout image).segments = ap (λ l. l.segments) r.same_layout in
          same_holds _ _ (m.counts segment (omega (arith, low, same_segments))))

      third : part_defects (block_part other 3 (λ address. where_true (is_marked other address) (type_comparison other address))) ≡ []
      third = blocks_clear image other 3 (λ address. where_true (is_marked other address) (type_comparison other address)) r.same_layout (λ x main low.
          where_holds (is_marked other x) (type_comparison other x) (type_holds x main))

  -- the rules
  pub addresses_met : is_rule_met other 4 ≡ true
  unfolding defects
  addresses_met = met_of (address_parts other) addresses-moved

  pub validity_met : is_rule_met other 5 ≡ true
  unfolding defects
  validity_met = met_of (validity_parts other) validity-moved
