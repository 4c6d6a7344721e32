-- The checkpoint of an image that carries a batch of moves.
use Rattle.std.proofs.Common.{◌≡◌, ℕ, ◌+◌, ◌*◌, ◌^◌, ◌<◌, [], List, true, false, not, ◌==◌, ◌&&◌, map, length, sym, ap, ◌∙◌, ⊎_elim, arith}
use Rattle.std.specs.Prelude.{bit_and}
use Rattle.std.specs.List.{list_any, range_with_len}
use Rattle.std.proofs.lemmas.Bool.{and_from, le-leb, cases_lt, false≢true}
use Rattle.std.proofs.lemmas.List.FromFn.{length-map-range_with_len}
use Rattle.f2_bytes.specs.Bits.{bit_msb}
use Rattle.f2_bytes.specs.Bytes.{Image, numbers_below, count_below}
use Rattle.f2_bytes.specs.Superblock.{layout}
use Rattle.f2_bytes.specs.Checkpoint.{head, log, pack, orphan_count, ckpt_flags, is_log_segment, valid_block_count, valid_node_count, valid_inode_count, free_segment_count}
use Rattle.f2_bytes.specs.Journal.{journal_count, nat_journal_area, sit_journal_area, nat_record_at, sit_record_at, nat_room, sit_room, are_journals_bounded}
use Rattle.f2_bytes.specs.SegmentTable.{sit, has_valid_block}
use Rattle.f2_bytes.proofs.SameParts.{count_same}
use Rattle.f2_bytes.proofs.Terms.{counted_some}
use Rattle.f2_pack.specs.declared.writing.NewPack.{NewPack}
use Rattle.f2_change.specs.declared.change.Change.{Change}
use Rattle.f2_change.specs.Carried.{Carries}
use Rattle.f2_commit.specs.Moves.{MovesBatch, sit_after}

none_counted : (n : ℕ) → count_below n (λ _. false) ≡ 0
none_counted n =
    ⊎_elim (λ some. absurd (false≢true (counted_some (λ _. false) n (omega (arith, some))).2)) (λ none. omega (arith, none)) (cases_lt 0 (count_below n (λ _. false)))

no_records : {A : Type 0} (f : ℕ → A) (n : ℕ) → map f (range_with_len 0 n) ≡ [] → n ≡ 0
no_records f n none =
    let all : length (map f (range_with_len 0 n)) ≡ n = length-map-range_with_len f 0 n in
    sym all ∙ ap length none

module _ (image new : Image) (addresses targets : List ℕ) (c : Change) (p : NewPack) (m : MovesBatch image addresses targets c) (s : Carries image c p new) where
  pub logs-moved : (t : ℕ) → t < 6 → log (head new) t ≡ log (head image) t
  logs-moved t low = s.logs_given t low ∙ m.same_logs t low

  pub journals-moved : are_journals_bounded (pack new) ≡ true
  journals-moved =
      let nats = no_records (λ k. nat_record_at (nat_journal_area (pack new)) (2 + 13 * k)) (journal_count (nat_journal_area (pack new))) s.no_nat_journal in
      let sits = no_records (λ k. sit_record_at (sit_journal_area (pack new)) (2 + 78 * k)) (journal_count (sit_journal_area (pack new))) s.no_sit_journal in
      and_from _ _ (le-leb (journal_count (nat_journal_area (pack new))) nat_room (omega (arith, nats))) (le-leb (journal_count (sit_journal_area (pack new))) sit_room (omega (arith, sits)))

  pub flags-moved : bit_and (ckpt_flags (head new)) 0x1018 ≡ 0
  flags-moved = ap (λ f. bit_and f 0x1018) s.flags_given

  pub orphans-moved : orphan_count new ≡ 0
  unfolding orphan_count
  orphans-moved = ap (λ all. count_below (2 ^ 32) (λ ino. list_any (λ x. x == ino) all)) s.no_orphans ∙ none_counted (2 ^ 32)

  pub valid_blocks-moved : valid_block_count (head new) ≡ valid_block_count (head image)
  valid_blocks-moved = s.valid ∙ m.same_valid

  pub valid_nodes-moved : valid_node_count (head new) ≡ valid_node_count (head image)
  valid_nodes-moved = s.nodes ∙ m.same_nodes

  pub valid_inodes-moved : valid_inode_count (head new) ≡ valid_inode_count (head image)
  valid_inodes-moved = s.inodes ∙ m.same_inodes

  -- a segment has the entry that the change leaves it
  pub sit-moved : (segment : ℕ) → segment < (layout image).segments → sit new segment ≡ sit_after image c segment
  sit-moved segment low = s.sit_entries segment low

  pub free_segments-moved : free_segment_count (head new) ≡ count_below (layout image).segments (λ segment. not (has_valid_block new segment) && not (is_log_segment (head image) segment))
  free_segments-moved =
      s.free ∙ m.free_segments
      ∙ count_same (λ segment. not (list_any (bit_msb (sit_after image c segment).map) (numbers_below 512)) && not (is_log_segment (head image) segment))
      (λ segment. not (has_valid_block new segment) && not (is_log_segment (head image) segment)) (layout image).segments
      (λ segment low. ap (λ e. not (list_any (bit_msb e.map) (numbers_below 512)) && not (is_log_segment (head image) segment)) (sym (sit-moved segment low)))

  pub counts-moved : (segment : ℕ) → segment < (layout image).segments → (sit new segment).count ≡ count_below 512 (bit_msb (sit new segment).map)
  counts-moved segment low =
      ap (λ e. e.count) (sit-moved segment low) ∙ m.counts_marks segment low ∙ sym (ap (λ e. count_below 512 (bit_msb e.map)) (sit-moved segment low))
