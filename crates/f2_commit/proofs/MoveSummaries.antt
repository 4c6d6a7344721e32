-- After a batch the summaries lead to the same nodes, and each summary block is of the type of its segment.
use Rattle.std.proofs.Common.{◌≡◌, ℕ, ◌+◌, ◌/◌, ◌<◌, inl, inr, List, true, false, not, ◌==◌, ◌&&◌, ◌||◌, nat_lt, length, get_or, All, Option, Some, None, refl, sym, ap, ◌∙◌, subst, ⊎_elim, arith}
use Rattle.std.specs.Prelude.{unwrap_or}
use Rattle.std.specs.Option.{option_map_or}
use Rattle.std.specs.List.{list_any}
use Rattle.std.proofs.lemmas.Bool.{and_parts, or_cases, eqb-true, not-false}
use Rattle.f2_bytes.specs.Bits.{bit_msb}
use Rattle.f2_bytes.specs.Bytes.{Image, block_at, numbers_below}
use Rattle.f2_bytes.specs.Superblock.{layout, is_main, segment_of, place_of, segment_start}
use Rattle.f2_bytes.specs.Checkpoint.{head, is_log_segment}
use Rattle.f2_bytes.specs.SegmentTable.{sit, is_block_valid, has_valid_block}
use Rattle.f2_bytes.specs.Summary.{summary, entry_type}
use Rattle.f2_bytes.specs.Support.{is_free}
use Rattle.f2_bytes.specs.Tree.{tree_slot}
use Rattle.f2_bytes.specs.Check.{defects, summary_parts, is_checked, is_data, is_node, digit, slot_with, nid_with, nid_of_spot, nid_wanted, none_value}
use Rattle.f2_bytes.specs.Moved.{is_used}
use Rattle.f2_bytes.specs.Defragment.{target_block}
use Rattle.f2_bytes.proofs.Below.{found_below, some_below}
use Rattle.f2_bytes.proofs.CheckLaws.{none_fails}
use Rattle.f2_bytes.proofs.CheckedBlocks.{summary_nid}
use Rattle.f2_bytes.proofs.CheckedChain.{rule_met, part_clear}
use Rattle.f2_bytes.proofs.CheckedNodes.{no_part}
use Rattle.f2_bytes.proofs.FrameBlocks.{main_at}
use Rattle.f2_bytes.proofs.MovedOwners.{slot_with-inode}
use Rattle.f2_bytes.proofs.SlotSupport.{body_checked}
use Rattle.f2_pack.specs.declared.writing.NewPack.{NewPack}
use Rattle.f2_change.specs.declared.change.Change.{Change}
use Rattle.f2_change.specs.Carried.{Carries}
use Rattle.f2_change.specs.Change.{given}
use Rattle.f2_commit.specs.Moves.{MovesBatch, AreTargets, moved_data, moved_nodes, node_targets, new_address, is_moving, is_taken, sit_after}
use Rattle.f2_commit.proofs.MoveAddresses.{used_support, data_no_node}
use Rattle.f2_commit.proofs.MoveAmong.{find_passes}
use Rattle.f2_commit.proofs.MoveCheckpoint.{sit-moved}
use Rattle.f2_commit.proofs.MoveKept.{slot_is_data, node_found}
use Rattle.f2_commit.proofs.MoveLands.{Takes, Goes, goes}
use Rattle.f2_commit.proofs.MoveMarked.{marked_is_used}
use Rattle.f2_commit.proofs.MoveMarks.{support_not_free, taken_free}
use Rattle.f2_commit.proofs.MoveSums.{kept_sums, given_sums, kept_summary, data_summary, moved_node_summary}
use Rattle.f2_commit.proofs.MoveTargets.{segment_at}

module _ (image : Image) (h : is_checked image ≡ true) where
  -- a found slot is one of a file
  slot_found : (a : ℕ) (place : ℕ × ℕ) → is_main (layout image) a ≡ true → slot_with image a ≡ Some place → is_data image a ≡ true
  unfolding slot_with
  slot_found a place main found =
      let at : tree_slot image place.0 place.1 ≡ a = eqb-true (tree_slot image place.0 place.1) a (find_passes (λ q. tree_slot image q.0 q.1 == a) _ place found) in
      let inode = slot_with-inode image h a place found in
      subst (λ x. is_data image x ≡ true) at (slot_is_data image h place.0 place.1 inode (ap (is_main (layout image)) at ∙ main)).1

  -- where a node stands no slot is found, and the node is wanted
  no_slot_found : (a nid : ℕ) (place : ℕ × ℕ) → nid_with image a ≡ Some nid → slot_with image a ≡ Some place → ⊥
  no_slot_found a nid place found slot =
      let u = node_found image h a nid found in
      data_no_node image h a u.0 (slot_found a place u.0 slot) u.1

  node_wanted : (a nid : ℕ) → nid_with image a ≡ Some nid → nid_wanted image a ≡ nid
  node_wanted a nid found = go (slot_with image a) refl
    where
      go : (o : Option (ℕ × ℕ)) → slot_with image a ≡ o → nid_wanted image a ≡ nid
      go None none =
          ap (λ o. option_map_or (nid_of_spot image) o (unwrap_or (nid_with image a) none_value)) none ∙ ap (λ o. unwrap_or o none_value) found
      go (Some place) slot = absurd (no_slot_found a nid place found slot)

  -- the type of the summary block of a segment with valid blocks that is no log's
  old_type : (segment : ℕ) → segment < (layout image).segments → has_valid_block image segment ≡ true → is_log_segment (head image) segment ≡ false
      → entry_type (block_at image ((layout image).ssa + segment)) ≡ digit (nat_lt 2 (sit image segment).kind)
  unfolding summary_parts defects
  old_type segment low valid other =
      let clear = part_clear (summary_parts image) (rule_met image (body_checked image h) 6 (omega arith) (omega arith)) 2 no_part (omega arith) in
      let found = entry_type (block_at image ((layout image).ssa + segment)) in
      let wanted = digit (nat_lt 2 (sit image segment).kind) in
      eqb-true found wanted (not-false _ (none_fails _ clear segment 0 low (omega arith) (record { found = found; wanted = wanted; fails = not (found == wanted) }) (rw (valid, other) refl)))

module _ (image new : Image) (addresses targets : List ℕ) (c : Change) (p : NewPack) (h : is_checked image ≡ true)
    (mains : All (λ a. is_main (layout image) a ≡ true) addresses) (free : AreTargets image addresses targets) (m : MovesBatch image addresses targets c) (s : Carries image c p new) where
  abbrev to : ℕ → ℕ
  to = new_address image addresses targets

  used_main : (a : ℕ) → is_used image a ≡ true → is_main (layout image) a ≡ true
  used_main a used = (and_parts (is_main (layout image) a) (is_data image a || is_node image a) used).0

  used_kept : (a : ℕ) → is_used image a ≡ true → to a ≡ a → summary new (to a) ≡ summary image a
  used_kept a used same =
      let main = used_main a used in
      ap (summary new) same ∙ kept_summary image new addresses targets c p h mains free m s a main (support_not_free image a main (used_support image h a used))

  pub summaries-moved : (a : ℕ) → is_used image a ≡ true → (summary new (to a)).nid ≡ (summary image a).nid
  summaries-moved a used = by (goes image addresses targets a)
    where
      by_takes : (n : ℕ) → to a ≡ target_block (layout image) targets n → Takes image addresses targets n a → (summary new (to a)).nid ≡ (summary image a).nid
      by_takes n at (inl d) = ap (λ x. x.nid) (ap (summary new) at ∙ data_summary image new addresses targets c p h mains free m s n a d.0 d.1)
      by_takes n at (inr d) =
          ap (λ x. x.nid) (ap (summary new) at ∙ moved_node_summary image new addresses targets c p h mains free m s n a d)
          ∙ sym (summary_nid image h a used ∙ node_wanted image h a (get_or (moved_nodes image addresses) d.0 0) d.3)

      by : Goes image addresses targets a → (summary new (to a)).nid ≡ (summary image a).nid
      by (inl same) = ap (λ x. x.nid) (used_kept a used same)
      by (inr t) = by_takes t.0 t.1 t.2

  pub places-moved : (a : ℕ) (place : ℕ × ℕ) → is_used image a ≡ true → slot_with image a ≡ Some place → (summary new (to a)).place ≡ (summary image a).place
  places-moved a place used slot = by (goes image addresses targets a)
    where
      by_takes : (n : ℕ) → to a ≡ target_block (layout image) targets n → Takes image addresses targets n a → (summary new (to a)).place ≡ (summary image a).place
      by_takes n at (inl d) = ap (λ x. x.place) (ap (summary new) at ∙ data_summary image new addresses targets c p h mains free m s n a d.0 d.1)
      by_takes n at (inr d) = absurd (no_slot_found image h a (get_or (moved_nodes image addresses) d.0 0) place d.3 slot)

      by : Goes image addresses targets a → (summary new (to a)).place ≡ (summary image a).place
      by (inl same) = ap (λ x. x.place) (used_kept a used same)
      by (inr t) = by_takes t.0 t.1 t.2

  -- ---- the types of summary blocks

  abbrev HasType : ℕ → Type 0
  HasType segment = entry_type (block_at new ((layout image).ssa + segment)) ≡ digit (nat_lt 2 (sit new segment).kind)

  -- a segment in which a block stays
  kept_type : (segment k : ℕ) → segment < (layout image).segments → k < 512 → is_log_segment (head image) segment ≡ false → is_block_valid image segment k ≡ true → HasType segment
  kept_type segment k low within other valid =
      let x = segment_start (layout image) segment + k in
      let main : is_main (layout image) x ≡ true = main_at (layout image) segment k low within in
      let own : segment_of (layout image) x ≡ segment = omega (arith, within) in
      let place : place_of (layout image) x ≡ k = omega (arith, within) in
      let marked : is_block_valid image (segment_of (layout image) x) (place_of (layout image) x) ≡ true = (λ i. is_block_valid image (own i) (place i)) ∙ valid in
      let used = marked_is_used image h x main marked in
      let kept : is_free image segment ≡ false = sym (ap (is_free image) own) ∙ support_not_free image x main (used_support image h x used) in
      let some : has_valid_block image segment ≡ true = some_below (is_block_valid image segment) 512 k within valid in
      let kind : (sit new segment).kind ≡ (sit image segment).kind = ap (λ e. e.kind) (sit-moved image new addresses targets c p m s segment low) ∙ m.old_kinds segment kept in
      ap entry_type (kept_sums image new addresses targets c p h mains free m s segment low kept)
      ∙ old_type image h segment low some other
      ∙ ap (λ n. digit (nat_lt 2 n)) (sym kind)

  -- a segment that takes data, and one that takes nodes
  data_type : (segment n : ℕ) → segment < (layout image).segments → is_free image segment ≡ true → n < length (moved_data image addresses) → get_or targets (n / 512) 0 ≡ segment → HasType segment
  data_type segment n low is_target inside at =
      let t = m.data_sums (n / 512) (omega (arith, inside)) in
      let block = given_sums image new addresses targets c p h mains free m s segment t.0 is_target low (ap (given c.sums.items) (sym at) ∙ t.1) in
      let kind : (sit new segment).kind ≡ 1
      = ap (λ e. e.kind) (sit-moved image new addresses targets c p m s segment low) ∙ ap (λ x. (sit_after image c x).kind) (sym at) ∙ m.data_kinds (n / 512) (omega (arith, inside)) in
      ap entry_type block ∙ t.2 ∙ ap (λ k. digit (nat_lt 2 k)) (sym kind)

  node_type : (segment n : ℕ) → segment < (layout image).segments → is_free image segment ≡ true → n < length (moved_nodes image addresses) → get_or (node_targets image addresses targets) (n / 512) 0 ≡ segment → HasType segment
  node_type segment n low is_target inside at =
      let t = m.node_sums (n / 512) (omega (arith, inside)) in
      let block = given_sums image new addresses targets c p h mains free m s segment t.0 is_target low (ap (given c.sums.items) (sym at) ∙ t.1) in
      let kind : (sit new segment).kind ≡ 4
      = ap (λ e. e.kind) (sit-moved image new addresses targets c p m s segment low) ∙ ap (λ x. (sit_after image c x).kind) (sym at) ∙ m.node_kinds (n / 512) (omega (arith, inside)) in
      ap entry_type block ∙ t.2 ∙ ap (λ k. digit (nat_lt 2 k)) (sym kind)

  taken_type : (segment k : ℕ) → segment < (layout image).segments → k < 512 → is_taken image addresses targets (segment_start (layout image) segment + k) ≡ true → HasType segment
  taken_type segment k low within taken = ⊎_elim by_data by_node (or_cases _ _ taken)
    where
      own : segment_of (layout image) (segment_start (layout image) segment + k) ≡ segment
      own = omega (arith, within)

      is_target : is_free image segment ≡ true
      is_target = sym (ap (is_free image) own) ∙ taken_free image new addresses targets c p h mains free m s (segment_start (layout image) segment + k) taken

      by_data : list_any (λ n. target_block (layout image) targets n == segment_start (layout image) segment + k) (numbers_below (length (moved_data image addresses))) ≡ true → HasType segment
      by_data any =
          let t = found_below (λ n. target_block (layout image) targets n == segment_start (layout image) segment + k) (length (moved_data image addresses)) any in
          let at = eqb-true (target_block (layout image) targets t.0) (segment_start (layout image) segment + k) t.2 in
          data_type segment t.0 low is_target t.1 (sym (segment_at (layout image) targets t.0) ∙ ap (segment_of (layout image)) at ∙ own)

      by_node : list_any (λ n. target_block (layout image) (node_targets image addresses targets) n == segment_start (layout image) segment + k) (numbers_below (length (moved_nodes image addresses))) ≡ true → HasType segment
      by_node any =
          let t = found_below (λ n. target_block (layout image) (node_targets image addresses targets) n == segment_start (layout image) segment + k) (length (moved_nodes image addresses)) any in
          let at = eqb-true (target_block (layout image) (node_targets image addresses targets) t.0) (segment_start (layout image) segment + k) t.2 in
          node_type segment t.0 low is_target t.1 (sym (segment_at (layout image) (node_targets image addresses targets) t.0) ∙ ap (segment_of (layout image)) at ∙ own)

  pub entry_types-moved : (segment : ℕ) → segment < (layout image).segments → has_valid_block new segment ≡ true → is_log_segment (head image) segment ≡ false → HasType segment
  entry_types-moved segment low valid other =
      let t = found_below (is_block_valid new segment) 512 valid in
      let x = segment_start (layout image) segment + t.0 in
      let marks : ((is_block_valid image segment t.0 && not (is_moving image addresses targets x)) || is_taken image addresses targets x) ≡ true
      = sym (m.marks segment t.0 low t.1) ∙ sym (ap (λ e. bit_msb e.map t.0) (sit-moved image new addresses targets c p m s segment low)) ∙ t.2 in
      ⊎_elim
      (λ stays. kept_type segment t.0 low t.1 other (and_parts (is_block_valid image segment t.0) (not (is_moving image addresses targets x)) stays).0)
      (λ taken. taken_type segment t.0 low t.1 taken)
      (or_cases _ _ marks)
