-- Another image with the support of a checked one: the rules on blocks, summaries, counts and logs.
use Rattle.std.proofs.Common.{◌≡◌, ℕ, ◌+◌, ◌<◌, [], ◌∷◌, ◌++◌, true, ◌==◌, ◌&&◌, ◌||◌, not, nat_lt, Option, None, refl, ap, ◌∙◌, arith}
use Rattle.std.specs.Prelude.{flat_map, filter, is_some, sum_by, unwrap_or, if◌then◌else◌}
use Rattle.std.specs.List.{list_any}
use Rattle.std.proofs.lemmas.Bool.{and_parts, not-true}
use Rattle.f2_bytes.specs.Bytes.{Block, Image, block_at, numbers_below, count_below}
use Rattle.f2_bytes.specs.Bits.{bit_msb}
use Rattle.f2_bytes.specs.Superblock.{layout, is_main, segment_of, segment_start}
use Rattle.f2_bytes.specs.Checkpoint.{head, log, is_log_segment, valid_block_count, valid_node_count, valid_inode_count, free_segment_count}
use Rattle.f2_bytes.specs.Journal.{SitEntry}
use Rattle.f2_bytes.specs.SegmentTable.{sit, is_block_valid, has_valid_block}
use Rattle.f2_bytes.specs.Summary.{summary, log_of, entry_type}
use Rattle.f2_bytes.specs.Check.{Comparison, part_defects, same, fails_where, where_true, of_value, part_by_one, single, digit, is_checked, block_part, is_marked, is_data, is_node, slot_with, spot_of, nid_wanted, type_comparison, validity_parts, summary_parts, count_parts, log_parts}
use Rattle.f2_bytes.specs.Laws.{AgreesOnSupport}
use Rattle.f2_bytes.proofs.InSupport.{summary_in_support}
use Rattle.f2_bytes.proofs.PackReads.{log_segment_low}
use Rattle.f2_bytes.proofs.SameParts.{part_same, where_same, count_same}
use Rattle.f2_bytes.proofs.FrameTables.{valid_logs}
use Rattle.f2_bytes.proofs.FrameNodes.{slot_with-frame, spot_of-frame, nid_wanted-frame}
use Rattle.f2_bytes.proofs.FrameTree.{loads, counts, same_layout, same_inode}
use Rattle.f2_bytes.proofs.FrameRules.{same_nat, same_head, same_limit, same_used}
use Rattle.f2_bytes.proofs.FrameBlocks.{segment_at, main_at, sit_same, sit_at, marked-frame, valid-frame, same_slots, same_nodes, summary-frame}

module _ (image other : Image) (s : AgreesOnSupport image other) (h : is_checked image ≡ true) where
  same_segments : (layout other).segments ≡ (layout image).segments
  same_segments = ap (λ l. l.segments) (same_layout image other s h)

  -- a part with a comparison for each block of a main segment
  block_part_same : (number : ℕ) (c d : ℕ → Option Comparison)
      → ((address : ℕ) → is_main (layout image) address ≡ true → segment_of (layout image) address < (layout image).segments → d address ≡ c address)
      → part_defects (block_part other number d) ≡ part_defects (block_part image number c)
  block_part_same number c d each =
      part_same (block_part image number c) (block_part other number d) refl same_segments (λ a. refl)
      (λ segment k low inside.
      let at = segment_at (layout image) segment k inside in
      let below : segment_of (layout image) (segment_start (layout image) segment + k) < (layout image).segments = omega (arith, at, low) in
      ap d (ap (λ l. segment_start l segment + k) (same_layout image other s h))
      ∙ each (segment_start (layout image) segment + k) (main_at (layout image) segment k low inside) below)

  -- a part with a comparison for each main segment
  segment_part_same : (number : ℕ) (c d : ℕ → Option Comparison) → ((segment : ℕ) → segment < (layout image).segments → d segment ≡ c segment)
      → part_defects (part_by_one number (layout other).segments d) ≡ part_defects (part_by_one number (layout image).segments c)
  segment_part_same number c d each =
      part_same (part_by_one number (layout image).segments c) (part_by_one number (layout other).segments d) refl same_segments (λ a. refl) (λ segment b low inside. each segment low)

  abbrev type_by : ℕ → ℕ → ℕ → Option Comparison
  type_by kind slots nodes =
      if nat_lt 0 slots then fails_where (nat_lt 2 kind) kind 0
      else (if nat_lt 0 nodes then fails_where (nat_lt kind 3 || nat_lt 5 kind) kind 3
      else None)

  pub validity-frame : flat_map part_defects (validity_parts other) ≡ flat_map part_defects (validity_parts image)
  unfolding validity_parts
  validity-frame = λ i. first i ++ (second i ++ (third i ++ []))
    where
      first : part_defects (block_part other 1 (λ address. same (digit (is_marked other address)) (digit (is_data other address || is_node other address))))
          ≡ part_defects (block_part image 1 (λ address. same (digit (is_marked image address)) (digit (is_data image address || is_node image address))))
      first = block_part_same 1 _ _ (λ address main low. λ i. same (digit (marked-frame image other s h address low i)) (digit (nat_lt 0 (same_slots image other s h address i) || nat_lt 0 (same_nodes image other s h address i))))

      second : part_defects (part_by_one 2 (layout other).segments (λ segment. same (sit other segment).count (count_below 512 (is_block_valid other segment))))
          ≡ part_defects (part_by_one 2 (layout image).segments (λ segment. same (sit image segment).count (count_below 512 (is_block_valid image segment))))
      second = segment_part_same 2 _ _ (λ segment low. λ i. same (sit_same image other s h segment low i).count (count_below 512 (λ k. bit_msb (sit_same image other s h segment low i).map k)))

      third : part_defects (block_part other 3 (λ address. where_true (is_marked other address) (type_comparison other address)))
          ≡ part_defects (block_part image 3 (λ address. where_true (is_marked image address) (type_comparison image address)))
      third = block_part_same 3 _ _ (λ address main low. λ i. where_true (marked-frame image other s h address low i) (type_by (sit_at image other s h address low i).kind (same_slots image other s h address i) (same_nodes image other s h address i)))

  same_place : (address : ℕ) → slot_with other address ≡ slot_with image address
  same_place address = slot_with-frame image other s (loads image other s h) (counts image other s h) address

  same_spot : (place : ℕ × ℕ) → spot_of other place ≡ spot_of image place
  same_spot place = spot_of-frame image other s (loads image other s h) (counts image other s h) place

  same_wanted : (address : ℕ) → nid_wanted other address ≡ nid_wanted image address
  same_wanted address = nid_wanted-frame image other s (loads image other s h) (counts image other s h) address

  pub summaries-frame : flat_map part_defects (summary_parts other) ≡ flat_map part_defects (summary_parts image)
  unfolding summary_parts
  summaries-frame = λ i. first i ++ (second i ++ (third i ++ []))
    where
      first : part_defects (block_part other 1 (λ address. where_true (is_marked other address) (same (summary other address).nid (nid_wanted other address))))
          ≡ part_defects (block_part image 1 (λ address. where_true (is_marked image address) (same (summary image address).nid (nid_wanted image address))))
      first = block_part_same 1 _ _ (λ address main low.
          ap (λ m. where_true m (same (summary other address).nid (nid_wanted other address))) (marked-frame image other s h address low)
          ∙ where_same (is_marked image address) (λ marked. λ i. same (summary-frame image other s h address main low marked i).nid (same_wanted address i)))

      second : part_defects (block_part other 2 (λ address. where_true (is_marked other address) (of_value (slot_with other address) (λ place. same (summary other address).place (spot_of other place).1))))
          ≡ part_defects (block_part image 2 (λ address. where_true (is_marked image address) (of_value (slot_with image address) (λ place. same (summary image address).place (spot_of image place).1))))
      second = block_part_same 2 _ _ (λ address main low.
          ap (λ m. where_true m (of_value (slot_with other address) (λ place. same (summary other address).place (spot_of other place).1))) (marked-frame image other s h address low)
          ∙ where_same (is_marked image address) (λ marked. λ i. of_value (same_place address i) (λ place. same (summary-frame image other s h address main low marked i).place (same_spot place i).1)))

      third : part_defects (part_by_one 3 (layout other).segments (λ segment. where_true (has_valid_block other segment && not (is_log_segment (head other) segment)) (same (entry_type (block_at other ((layout other).ssa + segment))) (digit (nat_lt 2 (sit other segment).kind)))))
          ≡ part_defects (part_by_one 3 (layout image).segments (λ segment. where_true (has_valid_block image segment && not (is_log_segment (head image) segment)) (same (entry_type (block_at image ((layout image).ssa + segment))) (digit (nat_lt 2 (sit image segment).kind)))))
      third = segment_part_same 3 _ _ (λ segment low.
          let moved : where_true (has_valid_block other segment && not (is_log_segment (head other) segment)) (same (entry_type (block_at other ((layout other).ssa + segment))) (digit (nat_lt 2 (sit other segment).kind)))
          ≡ where_true (has_valid_block image segment && not (is_log_segment (head image) segment)) (same (entry_type (block_at other ((layout image).ssa + segment))) (digit (nat_lt 2 (sit image segment).kind)))
          = λ i. where_true (valid-frame image other s h segment low i && not (is_log_segment (same_head image other s h i) segment)) (same (entry_type (block_at other ((same_layout image other s h i).ssa + segment))) (digit (nat_lt 2 (sit_same image other s h segment low i).kind))) in
          moved ∙ where_same (has_valid_block image segment && not (is_log_segment (head image) segment)) (λ used.
          let parts = and_parts (has_valid_block image segment) (not (is_log_segment (head image) segment)) used in
          ap (λ b. same (entry_type b) (digit (nat_lt 2 (sit image segment).kind))) (s.blocks ((layout image).ssa + segment) (summary_in_support image segment h low parts.0 (not-true (is_log_segment (head image) segment) parts.1)))))

  pub count-frame : flat_map part_defects (count_parts other) ≡ flat_map part_defects (count_parts image)
  unfolding count_parts
  count-frame = λ i. flat_map part_defects
      (single 1 (same (valid_block_count (same_head image other s h i)) (count_below (same_limit image other s h i) (λ nid. is_some (same_nat image other s h nid i)) + sum_by (λ ino. same_used image other s h ino i) (filter (λ n. same_inode image other s h n i) (numbers_below (same_limit image other s h i)))))
      ∷ single 2 (same (valid_node_count (same_head image other s h i)) (count_below (same_limit image other s h i) (λ nid. is_some (same_nat image other s h nid i))))
      ∷ single 3 (same (valid_inode_count (same_head image other s h i)) (count_below (same_limit image other s h i) (λ n. same_inode image other s h n i)))
      ∷ single 4 (same (free_segment_count (same_head image other s h i)) (free i))
      ∷ [])
    where
      free : count_below (layout other).segments (λ segment. not (has_valid_block other segment) && not (is_log_segment (head other) segment))
          ≡ count_below (layout image).segments (λ segment. not (has_valid_block image segment) && not (is_log_segment (head image) segment))
      free =
          ap (λ n. count_below n (λ segment. not (has_valid_block other segment) && not (is_log_segment (head other) segment))) same_segments
          ∙ count_same _ _ (layout image).segments (λ segment low. λ i. not (valid-frame image other s h segment low i) && not (is_log_segment (same_head image other s h i) segment))

  -- the entry of a log's segment
  log_in : (t : ℕ) → t < 6 → (log (head image) t).segment < (layout image).segments
  unfolding head
  log_in t low = log_segment_low (layout image) (head image) (valid_logs image other s (loads image other s h) (counts image other s h)) t low

  log_sit : (t : ℕ) → t < 6 → sit other (log (head other) t).segment ≡ sit image (log (head image) t).segment
  log_sit t low = ap (λ b. sit other (log b t).segment) (same_head image other s h) ∙ sit_same image other s h (log (head image) t).segment (log_in t low)

  pub log-frame : flat_map part_defects (log_parts other) ≡ flat_map part_defects (log_parts image)
  unfolding log_parts
  log-frame = λ i. part_defects (part_by_one 1 6 (λ t. same (unwrap_or (log_of (same_head image other s h i) (log (same_head image other s h i) t).segment) 0) t)) ++ (second i ++ (third i ++ (fourth i ++ [])))
    where
      mixed : ℕ → Block → SitEntry → Option Comparison
      mixed t b e = where_true (list_any (λ k. bit_msb e.map k) (numbers_below 512)) (fails_where (not (digit (nat_lt e.kind 3) == digit (nat_lt t 3))) e.kind t)

      second : part_defects (part_by_one 2 6 (λ t. let kind = (sit other (log (head other) t).segment).kind in
          where_true (has_valid_block other (log (head other) t).segment) (fails_where (not (digit (nat_lt kind 3) == digit (nat_lt t 3))) kind t)))
          ≡ part_defects (part_by_one 2 6 (λ t. let kind = (sit image (log (head image) t).segment).kind in
          where_true (has_valid_block image (log (head image) t).segment) (fails_where (not (digit (nat_lt kind 3) == digit (nat_lt t 3))) kind t)))
      second = part_same _ _ refl refl (λ a. refl) (λ t b low inside. λ i. mixed t (same_head image other s h i) (log_sit t low i))

      third : part_defects (record { number = 3; first_limit = 6; second_limit = λ _. 512; comparison = λ t k. where_true (k == (log (head other) t).offset) (same (digit (is_block_valid other (log (head other) t).segment k)) 0) })
          ≡ part_defects (record { number = 3; first_limit = 6; second_limit = λ _. 512; comparison = λ t k. where_true (k == (log (head image) t).offset) (same (digit (is_block_valid image (log (head image) t).segment k)) 0) })
      third = part_same _ _ refl refl (λ a. refl) (λ t k low inside. λ i. where_true (k == (log (same_head image other s h i) t).offset) (same (digit (bit_msb (log_sit t low i).map k)) 0))

      fourth : part_defects (record { number = 4; first_limit = 6; second_limit = λ _. 512; comparison = λ t k. where_true (((log (head other) t).allocation == 0) && nat_lt (log (head other) t).offset k) (same (digit (is_block_valid other (log (head other) t).segment k)) 0) })
          ≡ part_defects (record { number = 4; first_limit = 6; second_limit = λ _. 512; comparison = λ t k. where_true (((log (head image) t).allocation == 0) && nat_lt (log (head image) t).offset k) (same (digit (is_block_valid image (log (head image) t).segment k)) 0) })
      fourth = part_same _ _ refl refl (λ a. refl) (λ t k low inside. λ i. where_true (((log (same_head image other s h i) t).allocation == 0) && nat_lt (log (same_head image other s h i) t).offset k) (same (digit (bit_msb (log_sit t low i).map k)) 0))
