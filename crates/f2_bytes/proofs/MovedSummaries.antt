-- An image whose blocks moved: the summaries lead to the same nodes, and the rule on them.
use Rattle.std.proofs.Common.{◌≡◌, ℕ, ◌+◌, ◌<◌, inr, [], ◌++◌, true, false, ◌==◌, ◌&&◌, ◌||◌, not, nat_lt, cond, Option, Some, None, refl, sym, ap, ◌∙◌, arith}
use Rattle.std.specs.Prelude.{flat_map, unwrap_or, option_and_then}
use Rattle.std.specs.Option.{option_map_or}
use Rattle.std.proofs.lemmas.Bool.{and_parts, not-true}
use Rattle.f2_bytes.specs.Bytes.{Block, Image, block_at}
use Rattle.f2_bytes.specs.Superblock.{layout, is_main}
use Rattle.f2_bytes.specs.Checkpoint.{head, is_log_segment}
use Rattle.f2_bytes.specs.Node.{locate, address_count}
use Rattle.f2_bytes.specs.SegmentTable.{sit, has_valid_block}
use Rattle.f2_bytes.specs.Summary.{summary, entry_type}
use Rattle.f2_bytes.specs.Tree.{nid_slot, is_inode}
use Rattle.f2_bytes.specs.Check.{part_defects, same, where_true, of_value, part_by_one, block_part, digit, slot_with, nid_with, spot_of, nid_of_spot, nid_wanted, none_value, is_marked, is_checked, is_rule_met, defects, summary_parts}
use Rattle.f2_bytes.specs.Moved.{IsMoved, is_used}
use Rattle.f2_bytes.proofs.PartsHold.{same_holds, where_holds, value_holds, one_clear, blocks_clear, met_of}
use Rattle.f2_bytes.proofs.CheckedBlocks.{summary_nid, summary_place}
use Rattle.f2_bytes.proofs.MovedReads.{ReadsMoved}
use Rattle.f2_bytes.proofs.MovedOwners.{slot_with-inode, slot_with-moved, nid_with-moved}

module _ (to : ℕ → ℕ) (image other : Image) (h : is_checked image ≡ true) (m : IsMoved to image other) (r : ReadsMoved to image other) where
  -- ---- the node that a block belongs to

  abbrev spot_in : ℕ × ℕ → Option Block → ℕ × ℕ
  spot_in place o = unwrap_or (option_and_then (λ b. locate place.1 (address_count b)) o) (0, 0)

  -- where an inode has the address of a block
  spot-moved : (place : ℕ × ℕ) → is_inode image place.0 ≡ true → spot_of other place ≡ spot_of image place
  spot-moved place inode =
      let t = r.inode place.0 inode in
      ap (spot_in place) t.3
      ∙ ap (λ n. unwrap_or (locate place.1 n) (0, 0)) t.4.same_count
      ∙ sym (ap (spot_in place) t.2)

  nid_of_spot-moved : (place : ℕ × ℕ) → is_inode image place.0 ≡ true → nid_of_spot other place ≡ nid_of_spot image place
  nid_of_spot-moved place inode =
      let spots : nid_of_spot other place ≡ cond ((spot_of image place).0 == 0) place.0 (nid_slot other place.0 (spot_of image place).0)
      = ap (λ spot. cond (spot.0 == 0) place.0 (nid_slot other place.0 spot.0)) (spot-moved place inode) in
      spots ∙ ap (λ n. cond ((spot_of image place).0 == 0) place.0 n) (r.same_nid_slot place.0 (spot_of image place).0 inode)

  nid_wanted-moved : (a : ℕ) → is_used image a ≡ true → nid_wanted other (to a) ≡ nid_wanted image a
  nid_wanted-moved a used =
      let found : nid_wanted other (to a) ≡ option_map_or (nid_of_spot other) (slot_with image a) (unwrap_or (nid_with image a) none_value)
      = λ i. option_map_or (nid_of_spot other) (slot_with-moved to image other h m r a (inr used) i) (unwrap_or (nid_with-moved to image other h m r a (inr used) i) none_value) in
      found ∙ go (slot_with image a) refl
    where
      go : (o : Option (ℕ × ℕ)) → slot_with image a ≡ o → option_map_or (nid_of_spot other) o (unwrap_or (nid_with image a) none_value) ≡ option_map_or (nid_of_spot image) o (unwrap_or (nid_with image a) none_value)
      go None at = refl
      go (Some place) at = nid_of_spot-moved place (slot_with-inode image h a place at)

  -- ---- the rule

  nid_holds : (x : ℕ) → is_main (layout image) x ≡ true → is_marked other x ≡ true → (summary other x).nid ≡ nid_wanted other x
  nid_holds x main marked =
      let from = m.marked x main marked in
      ap (λ y. (summary other y).nid) (sym from.2)
      ∙ m.summaries from.0 from.1
      ∙ summary_nid image h from.0 from.1
      ∙ sym (nid_wanted-moved from.0 from.1)
      ∙ ap (nid_wanted other) from.2

  place_holds : (x : ℕ) → is_main (layout image) x ≡ true → is_marked other x ≡ true → (place : ℕ × ℕ) → slot_with other x ≡ Some place → (summary other x).place ≡ (spot_of other place).1
  place_holds x main marked place at =
      let from = m.marked x main marked in
      let found : slot_with image from.0 ≡ Some place = sym (slot_with-moved to image other h m r from.0 (inr from.1)) ∙ ap (slot_with other) from.2 ∙ at in
      ap (λ y. (summary other y).place) (sym from.2)
      ∙ m.places from.0 place from.1 found
      ∙ summary_place image h from.0 from.1 place found
      ∙ ap (λ spot. spot.1) (sym (spot-moved place (slot_with-inode image h from.0 place found)))

  -- a segment is a log's in both
  pub same_logs : (segment : ℕ) → is_log_segment (head other) segment ≡ is_log_segment (head image) segment
  same_logs segment = λ i.
      ((m.logs 0 (omega arith) i).segment == segment) || (((m.logs 1 (omega arith) i).segment == segment) || (((m.logs 2 (omega arith) i).segment == segment)
      || (((m.logs 3 (omega arith) i).segment == segment) || (((m.logs 4 (omega arith) i).segment == segment) || (((m.logs 5 (omega arith) i).segment == segment) || false)))))

  type_holds : (segment : ℕ) → segment < (layout image).segments → (has_valid_block other segment && not (is_log_segment (head other) segment)) ≡ true
      → entry_type (block_at other ((layout other).ssa + segment)) ≡ digit (nat_lt 2 (sit other segment).kind)
  type_holds segment low used =
      let parts = and_parts (has_valid_block other segment) (not (is_log_segment (head other) segment)) used in
      let free : is_log_segment (head image) segment ≡ false = sym (same_logs segment) ∙ not-true (is_log_segment (head other) segment) parts.1 in
      ap (λ l. entry_type (block_at other (l.ssa + segment))) r.same_layout ∙ m.entry_types segment low parts.0 free

  pub summaries-moved : flat_map part_defects (summary_parts other) ≡ []
  unfolding summary_parts
  summaries-moved = λ i. first i ++ (second i ++ (third i ++ []))
    where
      first : part_defects (block_part other 1 (λ address. where_true (is_marked other address) (same (summary other address).nid (nid_wanted other address)))) ≡ []
      first = blocks_clear image other 1 (λ address. where_true (is_marked other address) (same (summary other address).nid (nid_wanted other address))) r.same_layout (λ x main low.
          where_holds (is_marked other x) _ (λ marked. same_holds _ _ (nid_holds x main marked)))

      second : part_defects (block_part other 2 (λ address. where_true (is_marked other address) (of_value (slot_with other address) (λ place. same (summary other address).place (spot_of other place).1)))) ≡ []
      second = blocks_clear image other 2 (λ address. where_true (is_marked other address) (of_value (slot_with other address) (λ place. same (summary other address).place (spot_of other place).1))) r.same_layout (λ x main low.
          where_holds (is_marked other x) _ (λ marked. value_holds (slot_with other x) (λ place. same (summary other x).place (spot_of other place).1) (λ place at. same_holds _ _ (place_holds x main marked place at))))

      third : part_defects (part_by_one 3 (layout other).segments (λ segment. where_true (has_valid_block other segment && not (is_log_segment (head other) segment)) (same (entry_type (block_at other ((layout other).ssa + segment))) (digit (nat_lt 2 (sit other segment).kind))))) ≡ []
      third = one_clear 3 (layout other).segments (λ segment. where_true (has_valid_block other segment && not (is_log_segment (head other) segment)) (same (entry_type (block_at other ((layout other).ssa + segment))) (digit (nat_lt 2 (sit other segment).kind)))) (λ segment low.
          let same_segments : (layout other).segments ≡ (layout image).segments = ap (λ l. l.segments) r.same_layout in
          where_holds (has_valid_block other segment && not (is_log_segment (head other) segment)) _ (λ used. same_holds _ _ (type_holds segment (omega (arith, low, same_segments)) used)))

  pub summaries_met : is_rule_met other 6 ≡ true
  unfolding defects
  summaries_met = met_of (summary_parts other) summaries-moved
