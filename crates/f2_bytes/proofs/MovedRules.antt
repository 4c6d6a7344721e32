-- An image whose blocks moved meets the rules on the superblock, the checkpoint, the nodes and the counts.
use Rattle.std.proofs.Common.{◌≡◌, ℕ, ◌+◌, ◌<◌, [], ◌∷◌, ◌++◌, Bool, true, false, ◌==◌, ◌&&◌, not, cond, length, get_or, Option, Some, None, refl, sym, ap, ◌∙◌, arith}
use Rattle.std.specs.Prelude.{flat_map, bit_and, option_map, is_none, is_some}
use Rattle.std.specs.Option.{option_map_or}
use Rattle.f2_bytes.specs.Bytes.{Image, block_at, count_below}
use Rattle.f2_bytes.specs.Superblock.{copy_row, copy_of, passes, layout, is_main, is_compared_row}
use Rattle.f2_bytes.specs.Checkpoint.{head, orphan_count, ckpt_flags, is_log_segment, free_segment_count}
use Rattle.f2_bytes.specs.Journal.{NatEntry}
use Rattle.f2_bytes.specs.NodeAddressTable.{nat}
use Rattle.f2_bytes.specs.Node.{footer_nid, footer_ino, node_offset, mode, has_type, type_of_mode}
use Rattle.f2_bytes.specs.SegmentTable.{has_valid_block}
use Rattle.f2_bytes.specs.RollForward.{chain_length}
use Rattle.f2_bytes.specs.Tree.{read_node, is_inode, nid_slot}
use Rattle.f2_bytes.specs.Check.{nids, inode_of, directory_of, offset_of_node, Comparison, part_defects, defects, same, fails_where, where_true, of_value, part_by_one, single, digit, mode_comparison, superblock_parts, checkpoint_parts, node_parts, count_parts, is_rule_met, is_checked}
use Rattle.f2_bytes.specs.Moved.{moved_entry, IsMovedNode, IsMoved}
use Rattle.f2_bytes.proofs.CheckedChain.{part_clear}
use Rattle.f2_bytes.proofs.CheckedNodes.{no_part, node_part_clear}
use Rattle.f2_bytes.proofs.MovedCounts.{each_rule_met, entry_value_same, same_limit, has_node, node_count, times_named-moved, all_used, inode_count}
use Rattle.f2_bytes.proofs.MovedNodes.{entry_lands}
use Rattle.f2_bytes.proofs.MovedReads.{IsMovedInode, ReadsMoved}
use Rattle.f2_bytes.proofs.MovedSummaries.{same_logs}
use Rattle.f2_bytes.proofs.Pairs.{paired_or, paired_is_none, paired_value}
use Rattle.f2_bytes.proofs.PartsHold.{Holds, same_holds, fails_holds, value_holds, one_clear, single_clear, met_of}
use Rattle.f2_bytes.proofs.SameParts.{part_same}
use Rattle.f2_bytes.proofs.SlotSupport.{body_checked}

-- a comparison under two conditions
where_both : (a x y : Bool) (c d : Option Comparison) → (a ≡ true → (x ≡ y) × (c ≡ d)) → where_true (a && x) c ≡ where_true (a && y) d
where_both false x y c d both = refl
where_both true x y c d both = let t = both refl in λ i. where_true (t.0 i) (t.1 i)

module _ (to : ℕ → ℕ) (image other : Image) (h : is_checked image ≡ true) (m : IsMoved to image other) (r : ReadsMoved to image other) where
  -- ---- the superblock

  superblock-moved : flat_map part_defects (superblock_parts other) ≡ flat_map part_defects (superblock_parts image)
  unfolding superblock_parts
  superblock-moved =
      let first : part_defects (part_by_one 1 2 (λ copy. same (digit (passes (block_at other copy))) 1)) ≡ part_defects (part_by_one 1 2 (λ copy. same (digit (passes (block_at image copy))) 1))
      = part_same _ _ refl refl (λ a. refl) (λ copy b low inside. ap (λ x. same (digit (passes x)) 1) (m.copies copy low)) in
      λ i. first i ++ flat_map part_defects (part_by_one 2 33 (λ row. where_true (is_compared_row row) (same (copy_row (copy_of (m.copies 1 (omega arith) i)) row) (copy_row (copy_of (m.copies 0 (omega arith) i)) row))) ∷ [])

  pub superblock_met : is_rule_met other 1 ≡ true
  unfolding defects
  superblock_met = ap (λ xs. length xs == 0) superblock-moved ∙ each_rule_met image h 1 (omega arith) (omega arith)

  -- ---- the checkpoint

  checkpoint-moved : flat_map part_defects (checkpoint_parts other) ≡ []
  unfolding checkpoint_parts
  checkpoint-moved = λ i. first i ++ (second i ++ (third i ++ []))
    where
      first : part_defects (single 1 (same (orphan_count other) 0)) ≡ []
      first = single_clear 1 (same (orphan_count other) 0) (same_holds (orphan_count other) 0 m.orphans)

      second : part_defects (single 2 (same (chain_length other) 0)) ≡ []
      second = single_clear 2 (same (chain_length other) 0) (same_holds (chain_length other) 0 m.chain)

      third : part_defects (single 3 (same (bit_and (ckpt_flags (head other)) 0x1018) 0)) ≡ []
      third = single_clear 3 (same (bit_and (ckpt_flags (head other)) 0x1018) 0) (same_holds (bit_and (ckpt_flags (head other)) 0x1018) 0 m.flags)

  pub checkpoint_met : is_rule_met other 2 ≡ true
  unfolding defects
  checkpoint_met = met_of (checkpoint_parts other) checkpoint-moved

  -- ---- the nodes

  -- an entry goes to main
  entry_holds : (nid : ℕ) → Holds (of_value (nat other nid) (λ e. fails_where (not (is_main (layout other) e.address)) e.address (layout other).main))
  entry_holds nid = value_holds (nat other nid) (λ e. fails_where (not (is_main (layout other) e.address)) e.address (layout other).main) (λ e is. at (nat image nid) refl e (sym (r.same_nat nid) ∙ is))
    where
      at : (o : Option NatEntry) → nat image nid ≡ o → (e : NatEntry) → option_map (moved_entry to) (nat image nid) ≡ Some e → Holds (fails_where (not (is_main (layout other) e.address)) e.address (layout other).main)
      at None before e is =
          let none : None ≡ Some e = sym (ap (option_map (moved_entry to)) before) ∙ is in
          absurd (cc none)
      at (Some x) before e is =
          let some : Some (moved_entry to x) ≡ Some e = sym (ap (option_map (moved_entry to)) before) ∙ is in
          let same_address : to x.address ≡ e.address = ap (λ o. option_map_or (λ y. y.address) o (to x.address)) some in
          fails_holds (not (is_main (layout other) e.address)) e.address (layout other).main (ap (λ a. not (is_main (layout other) a)) (sym same_address) ∙ ap not (entry_lands to image other h m nid x before))

  mode-moved : (nid : ℕ) → mode_comparison other nid ≡ mode_comparison image nid
  mode-moved nid = λ i. cond (nid == 3) (fails_where (none i) (mode_at i) 0x4000) (others i)
    where
      none : is_none (directory_of other 3) ≡ is_none (directory_of image 3)
      none = paired_is_none (IsMovedInode to) (directory_of image 3) (directory_of other 3) (r.directories 3)

      mode_at : option_map_or mode (inode_of other 3) 0 ≡ option_map_or mode (inode_of image 3) 0
      mode_at = paired_or (IsMovedInode to) (inode_of image 3) (inode_of other 3) mode mode 0 (r.inodes 3) (λ b c is n. n.same_mode)

      others : of_value (inode_of other nid) (λ b. fails_where (not (has_type b)) (mode b) 0) ≡ of_value (inode_of image nid) (λ b. fails_where (not (has_type b)) (mode b) 0)
      others =
          paired_value (IsMovedInode to) (inode_of image nid) (inode_of other nid) (λ b. fails_where (not (has_type b)) (mode b) 0) (λ b. fails_where (not (has_type b)) (mode b) 0) (r.inodes nid)
          (λ b c is n. ap (λ x. fails_where (not (is_some (type_of_mode x))) x 0) n.same_mode)

  node-moved : flat_map part_defects (node_parts other) ≡ []
  unfolding node_parts
  node-moved = λ i. first i ++ (second i ++ (third i ++ (fourth i ++ (fifth i ++ (sixth i ++ (seventh i ++ []))))))
    where
      first : part_defects (get_or (node_parts other) 0 no_part) ≡ []
      first = one_clear 1 (nids other) (λ nid. of_value (nat other nid) (λ e. fails_where (not (is_main (layout other) e.address)) e.address (layout other).main)) (λ nid low. entry_holds nid)

      second : part_defects (get_or (node_parts other) 1 no_part) ≡ []
      second =
          part_same _ _ refl (same_limit to image other r) (λ a. refl)
          (λ nid b low inside. paired_value (IsMovedNode to) (read_node image nid) (read_node other nid) (λ b. same (footer_nid b) nid) (λ b. same (footer_nid b) nid) (r.nodes nid) (λ b c is n. ap (λ x. same x nid) (r.same_footer_nid b c n)))
          ∙ node_part_clear image (body_checked image h) 1 (omega arith)

      third : part_defects (get_or (node_parts other) 2 no_part) ≡ []
      third =
          part_same _ _ refl (same_limit to image other r) (λ a. refl)
          (λ nid b low inside. paired_value (IsMovedNode to) (read_node image nid) (read_node other nid) (λ b. of_value (nat image nid) (λ e. same (footer_ino b) e.ino)) (λ b. of_value (nat other nid) (λ e. same (footer_ino b) e.ino)) (r.nodes nid)
          (λ b c is n.
          (λ i. of_value (r.same_nat nid i) (λ e. same (r.same_footer_ino b c n i) e.ino))
          ∙ entry_value_same to (nat image nid) (λ e. same (footer_ino b) e.ino) (λ e. refl)))
          ∙ node_part_clear image (body_checked image h) 2 (omega arith)

      fourth : part_defects (get_or (node_parts other) 3 no_part) ≡ []
      fourth =
          part_same _ _ refl (same_limit to image other r) (λ a. refl)
          (λ nid b low inside. paired_value (IsMovedInode to) (inode_of image nid) (inode_of other nid) (λ b. same (node_offset b) 0) (λ b. same (node_offset b) 0) (r.inodes nid) (λ b c is n. ap (λ x. same x 0) n.same_offset))
          ∙ node_part_clear image (body_checked image h) 3 (omega arith)

      fifth : part_defects (get_or (node_parts other) 4 no_part) ≡ []
      fifth =
          part_same _ _ refl (same_limit to image other r) (λ a. refl) (λ nid b low inside. mode-moved nid)
          ∙ node_part_clear image (body_checked image h) 4 (omega arith)

      sixth : part_defects (get_or (node_parts other) 5 no_part) ≡ []
      sixth =
          part_same _ _ refl (same_limit to image other r) (λ a. refl)
          (λ ino offset low inside.
          (λ i. where_true (r.same_inode ino i && not (nid_slot other ino offset == 0)) (same (offset_of_node other (nid_slot other ino offset) ino) offset))
          ∙ where_both (is_inode image ino) (not (nid_slot other ino offset == 0)) (not (nid_slot image ino offset == 0)) _ _ (λ inode.
          let slot = r.same_nid_slot ino offset inode in
          (ap (λ x. not (x == 0)) slot, ap (λ x. same x offset) (ap (λ x. offset_of_node other x ino) slot ∙ r.same_offset (nid_slot image ino offset) ino))))
          ∙ node_part_clear image (body_checked image h) 5 (omega arith)

      seventh : part_defects (get_or (node_parts other) 6 no_part) ≡ []
      seventh =
          part_same _ _ refl (same_limit to image other r) (λ a. refl)
          (λ nid b low inside. λ i. where_true (has_node to image other r nid i && not (r.same_inode nid i)) (same (times_named-moved to image other r nid i) 1))
          ∙ node_part_clear image (body_checked image h) 6 (omega arith)

  pub nodes_met : is_rule_met other 3 ≡ true
  unfolding defects
  nodes_met = met_of (node_parts other) node-moved

  -- ---- the counts

  free_segments : free_segment_count (head other) ≡ count_below (layout other).segments (λ segment. not (has_valid_block other segment) && not (is_log_segment (head other) segment))
  free_segments =
      m.free_segments
      ∙ sym (λ i. count_below (r.same_layout i).segments (λ segment. not (has_valid_block other segment) && not (same_logs to image other h m r segment i)))

  count-moved : flat_map part_defects (count_parts other) ≡ []
  unfolding count_parts defects
  count-moved = λ i. first i ++ (second i ++ (third i ++ (fourth i ++ [])))
    where
      clear : (k : ℕ) → k < 4 → part_defects (get_or (count_parts image) k no_part) ≡ []
      clear k low = part_clear (count_parts image) (each_rule_met image h 7 (omega arith) (omega arith)) k no_part low

      first : part_defects (get_or (count_parts other) 0 no_part) ≡ []
      first =
          (λ i. part_defects (single 1 (same (m.valid_blocks i) (node_count to image other r i + all_used to image other r i))))
          ∙ clear 0 (omega arith)

      second : part_defects (get_or (count_parts other) 1 no_part) ≡ []
      second = (λ i. part_defects (single 2 (same (m.valid_nodes i) (node_count to image other r i)))) ∙ clear 1 (omega arith)

      third : part_defects (get_or (count_parts other) 2 no_part) ≡ []
      third = (λ i. part_defects (single 3 (same (m.valid_inodes i) (inode_count to image other r i)))) ∙ clear 2 (omega arith)

      fourth : part_defects (get_or (count_parts other) 3 no_part) ≡ []
      fourth = single_clear 4 (same (free_segment_count (head other)) (count_below (layout other).segments (λ segment. not (has_valid_block other segment) && not (is_log_segment (head other) segment)))) (same_holds _ _ free_segments)

  pub counts_met : is_rule_met other 7 ≡ true
  unfolding defects
  counts_met = met_of (count_parts other) count-moved
