-- Another image with the support of this one has the same superblock, pack and tables.
use Rattle.std.proofs.Common.{◌≡◌, ℕ, List, ◌+◌, ◌*◌, ◌/◌, ◌^◌, ◌<◌, ◌≤◌, Bool, true, false, ◌&&◌, ◌==◌, nat_le, Option, refl, ap, ◌∙◌, arith}
use Rattle.std.specs.Prelude.{unwrap_or, is_some}
use Rattle.std.proofs.lemmas.Bool.{and_parts, leb-true, false≢true}
use Rattle.f2_bytes.specs.Bytes.{Image, block_at}
use Rattle.f2_bytes.specs.Superblock.{passes, copy_passes, copy_of, super_copy, super_bytes, is_loadable, layout, layout_of, has_enough_room, segment_count_main, segment_count_sit, block_count, unsupported_features}
use Rattle.f2_bytes.specs.Checkpoint.{pack, pack_head, head, pack_number, pack_total_block_count, has_checkpoint, has_room_for_summaries, agrees_with_layout, is_pack_valid, sit_bits, orphans}
use Rattle.f2_bytes.specs.Journal.{nat_journal_area, sit_journal_area, nat_records, sit_records, journal_count, are_journals_bounded}
use Rattle.f2_bytes.specs.NodeAddressTable.{nat}
use Rattle.f2_bytes.specs.SegmentTable.{sit, sit_entry, sit_journal, sit_journal_entry, sit_entry_in, sit_block_address}
use Rattle.f2_bytes.specs.Summary.{pack_summary}
use Rattle.f2_bytes.specs.Laws.{AgreesOnSupport}
use Rattle.f2_bytes.proofs.FormatFacts.{super_passes}
use Rattle.f2_bytes.proofs.Frame.{nat-same}
use Rattle.f2_bytes.proofs.InSupport.{copy_in, pack_in, nat_in, sit_in}
use Rattle.f2_bytes.proofs.PackReads.{pack_valid, room, nat_area-frame, sit_area-frame, orphans-frame, pack_summary-frame}

-- 28160 entries in each two segments of the table are 55 in each block of a copy
entries_in_blocks : (main sit : ℕ) → main ≤ 28160 * (sit / 2) → main ≤ 55 * (512 * (sit / 2))
entries_in_blocks main sit h = omega (arith, h)

-- the segment table reaches for the main segments
pub sit_reaches : (image : Image) → is_some (super_copy image) ≡ true → (layout image).segments ≤ 55 * (layout image).sit_half
unfolding layout copy_passes has_enough_room
sit_reaches image h =
    let b = super_bytes image in
    let enough : has_enough_room b ≡ true = (and_parts _ _ (and_parts _ _ (super_passes image h)).0).1 in
    let reach : nat_le (segment_count_main b) (28160 * (segment_count_sit b / 2)) ≡ true = (and_parts _ _ (and_parts _ _ enough).0).1 in
    entries_in_blocks (segment_count_main b) (segment_count_sit b) (leb-true (segment_count_main b) (28160 * (segment_count_sit b / 2)) reach)

module _ (image other : Image) (s : AgreesOnSupport image other) (copied : is_some (super_copy image) ≡ true) (checkpoint : has_checkpoint image ≡ true) where
  pub has_super : is_some (super_copy image) ≡ true
  has_super = copied

  pub super_copy-frame : super_copy other ≡ super_copy image
  super_copy-frame = rw (s.copies 0 (omega arith), s.copies 1 (omega arith)) refl

  pub super_bytes-frame : super_bytes other ≡ super_bytes image
  super_bytes-frame = ap (λ o. copy_of (block_at other (unwrap_or o 0))) super_copy-frame ∙ ap copy_of (go (passes (block_at image 0)) refl (passes (block_at image 1)) refl)
    where
      go : (a : Bool) → passes (block_at image 0) ≡ a → (b : Bool) → passes (block_at image 1) ≡ b → block_at other (unwrap_or (super_copy image) 0) ≡ block_at image (unwrap_or (super_copy image) 0)
      go true a b c = rw a (s.blocks 0 (copy_in image 0 (omega arith) a))
      go false a true b = rw (a, b) (s.blocks 1 (copy_in image 1 (omega arith) b))
      go false a false b =
          let no : false ≡ true = rw (a, b) at has_super in
          absurd (false≢true no)

  pub layout-frame : layout other ≡ layout image
  unfolding layout
  layout-frame = ap layout_of super_bytes-frame

  pub is_loadable-frame : is_loadable image ≡ true → is_loadable other ≡ true
  is_loadable-frame loadable =
      let loads = λ (o : Option ℕ) (b : List ℕ) (n : ℕ). is_some o && (unsupported_features b == 0) && nat_le (block_count b) (2 ^ 28) && nat_le (block_count b) n in
      let same : is_loadable other ≡ is_loadable image = λ i. loads (super_copy-frame i) (super_bytes-frame i) (s.length i) in
      same ∙ loadable

  pub has_checkpoint-frame : has_checkpoint other ≡ true
  has_checkpoint-frame = ap is_some s.pack ∙ checkpoint

  pub pack_number-frame : pack_number other ≡ pack_number image
  pack_number-frame = ap (λ o. unwrap_or o 0) s.pack

  pub valid_room : has_room_for_summaries (pack_head (pack image)) ≡ true
  unfolding is_pack_valid
  valid_room = (and_parts _ _ (pack_valid image checkpoint)).1

  pub valid_logs : agrees_with_layout (layout image) (pack_head (pack image)) ≡ true
  unfolding is_pack_valid
  valid_logs = (and_parts _ _ (and_parts _ _ (pack_valid image checkpoint)).0).1

  pub pack-frame : (j : ℕ) → j < pack_total_block_count (pack_head (pack image)) → pack other j ≡ pack image j
  unfolding pack head
  pack-frame j low =
      let place : block_at other ((layout other).cp + 512 * pack_number other + j) ≡ block_at other ((layout image).cp + 512 * pack_number image + j)
      = λ i. block_at other ((layout-frame i).cp + 512 * pack_number-frame i + j) in
      place ∙ s.blocks ((layout image).cp + 512 * pack_number image + j) (pack_in image j low)

  pub head-frame : head other ≡ head image
  unfolding head
  head-frame = let r = room (pack_head (pack image)) valid_room in pack-frame 0 (omega (arith, r.0, r.1))

  pub nat_area : nat_journal_area (pack other) ≡ nat_journal_area (pack image)
  nat_area = nat_area-frame (pack image) (pack other) pack-frame valid_room

  pub sit_area : sit_journal_area (pack other) ≡ sit_journal_area (pack image)
  sit_area = sit_area-frame (pack image) (pack other) pack-frame valid_room

  pub orphans_same : orphans (pack other) ≡ orphans (pack image)
  orphans_same = orphans-frame (pack image) (pack other) pack-frame valid_room

  pub pack_summary_same : (t k : ℕ) → t < 6 → pack_summary (pack other) t k ≡ pack_summary (pack image) t k
  pack_summary_same t k low = pack_summary-frame (pack image) (pack other) pack-frame valid_room (layout image) valid_logs t k low

  pub journals_same : are_journals_bounded (pack other) ≡ are_journals_bounded (pack image)
  journals_same = λ i. nat_le (journal_count (nat_area i)) 38 && nat_le (journal_count (sit_area i)) 6

  -- the node address table
  pub nat-frame : (nid : ℕ) → nat other nid ≡ nat image nid
  nat-frame nid = nat-same image other nid layout-frame head-frame (ap nat_records nat_area) (λ low. s.blocks _ (nat_in image (nid / 455) (omega (arith, low))))

  -- the segment table, for main segments
  pub sit-frame : (segment : ℕ) → segment < (layout image).segments → sit other segment ≡ sit image segment
  unfolding sit sit_entry
  sit-frame segment low =
      let reach = sit_reaches image has_super in
      let parts : sit_entry (layout other) (sit_bits (head other)) (sit_journal other) other segment ≡ sit_entry (layout image) (sit_bits (head image)) (sit_journal image) other segment
      = λ i. sit_entry (layout-frame i) (sit_bits (head-frame i)) (sit_records (sit_area i)) other segment in
      let block = s.blocks (sit_block_address (layout image) (sit_bits (head image)) (segment / 55)) (sit_in image (segment / 55) (omega (arith, low, reach))) in
      parts ∙ ap (λ b. unwrap_or (sit_journal_entry (sit_journal image) segment) (sit_entry_in b segment)) block
