-- What a change gives, and the pack and the blocks that carry it.
use Rattle.std.specs.Prelude.{◌≡◌, ℕ, ◌+◌, ◌-◌, ◌*◌, ◌%◌, ◌^◌, ◌≤◌, ◌<◌, Bool, not, ◌==◌, nat_lt, false, if◌then◌else◌, List, [], ◌∷◌, ◌++◌, map, filter, fold, length, replicate, get_or, slice_index, Option, Some, None, option_map, unwrap_or}
use Rattle.std.specs.Option.{option_or}
use Rattle.std.specs.List.{list_any}
use Rattle.f2_bytes.specs.declared.layout.Layout.{Layout}
use Rattle.f2_bytes.specs.Bits.{bit_msb}
use Rattle.f2_bytes.specs.Bytes.{Block, Image, IsBlock, numbers_below}
use Rattle.f2_bytes.specs.Checkpoint.{checkpoint_row, sit_ver_bitmap_bytesize, nat_ver_bitmap_bytesize, sit_bits, nat_bits, head, is_log_segment}
use Rattle.f2_bytes.specs.Journal.{NatEntry, SitEntry, NatRecord, SitRecord}
use Rattle.f2_bytes.specs.NodeAddressTable.{nid_limit, nat_journal_entry}
use Rattle.f2_bytes.specs.Node.{footer_cp_ver}
use Rattle.f2_bytes.specs.SegmentTable.{sit_journal_entry}
use Rattle.f2_bytes.specs.Summary.{Summary, summary, summary_entry}
use Rattle.f2_bytes.specs.Superblock.{layout, segment_start}
use Rattle.f2_pack.specs.declared.checkpoint.Log.{Log}
use Rattle.f2_sum.specs.Records.{nat_entry as format_nat_entry, sit_entry as format_sit_entry}
use Rattle.f2_sum.specs.declared.records.NatEntry.{NatEntry as HeldNatEntry}
use Rattle.f2_sum.specs.declared.records.SitEntry.{SitEntry as HeldSitEntry}
use Rattle.f2_tables.specs.Tables.{is_dirty}
use Rattle.f2_change.specs.declared.change.Counts.{Counts}

-- what a list gives a number, if anything: its last entry for it
unfoldable pub given : {T : Type 0} → List (ℕ × T) → ℕ → Option T
given {T} pairs n = fold (λ (found : Option T) (w : ℕ × T). if w.0 == n then Some w.1 else found) None pairs

-- the entries that a change gives a node's number, and a segment
abbrev pub nat_given : List (ℕ × HeldNatEntry) → ℕ → Option NatEntry
nat_given entries nid = option_map format_nat_entry (given entries nid)

abbrev pub sit_given : List (ℕ × HeldSitEntry) → ℕ → Option SitEntry
sit_given entries segment = option_map format_sit_entry (given entries segment)

-- log t among six
abbrev pub log_at : List Log → ℕ → Log
log_at logs t = get_or logs t (record { segno = 0; offset = 0; reuse = false })

-- whether one of these logs fills a segment
abbrev pub is_filled : List Log → ℕ → Bool
is_filled logs segment = list_any (λ (at : Log). at.segno == segment) logs

-- ---- the head

-- The rows of the new head that may differ from those of the old one, each with its number: version and counts; flags for a
-- clean unmount and a checksum, 8 blocks in all, and summaries from block 1 on; and the six logs.
abbrev pub next_rows : ℕ → List Log → Counts → List (ℕ × ℕ)
next_rows version logs counts =
    (0, version) ∷ (1, counts.user) ∷ (2, counts.valid) ∷ (5, counts.free) ∷ (38, 0x41) ∷ (39, 8) ∷ (40, 1)
    ∷ (41, counts.nodes) ∷ (42, counts.inodes) ∷ (43, counts.next_nid)
    ∷ (22, (log_at logs 0).segno) ∷ (30, (log_at logs 0).offset) ∷ (48, if (log_at logs 0).reuse then 1 else 0)
    ∷ (23, (log_at logs 1).segno) ∷ (31, (log_at logs 1).offset) ∷ (49, if (log_at logs 1).reuse then 1 else 0)
    ∷ (24, (log_at logs 2).segno) ∷ (32, (log_at logs 2).offset) ∷ (50, if (log_at logs 2).reuse then 1 else 0)
    ∷ (6, (log_at logs 3).segno) ∷ (14, (log_at logs 3).offset) ∷ (51, if (log_at logs 3).reuse then 1 else 0)
    ∷ (7, (log_at logs 4).segno) ∷ (15, (log_at logs 4).offset) ∷ (52, if (log_at logs 4).reuse then 1 else 0)
    ∷ (8, (log_at logs 5).segno) ∷ (16, (log_at logs 5).offset) ∷ (53, if (log_at logs 5).reuse then 1 else 0) ∷ []

-- the new bits are the old ones, with these turned
pub record TurnsBits (old new : List ℕ) (turned : ℕ → Bool) : Type 0 where
  pub size : length new ≡ length old
  pub bits : (k : ℕ) → k < 8 * length old → bit_msb new k ≡ (if turned k then not (bit_msb old k) else bit_msb old k)

-- The head of the new pack, up to its seal: the old one but for these rows and the bits that are turned.
pub record IsNextHead (old : Block) (rows : List (ℕ × ℕ)) (sit_turned nat_turned : ℕ → Bool) (new : Block) : Type 0 where
  pub block : IsBlock new
  pub rows_given : (k : ℕ) → k < 64 → checkpoint_row new k ≡ unwrap_or (given rows k) (checkpoint_row old k)
  pub sit_turns : TurnsBits (sit_bits old) (sit_bits new) sit_turned
  pub nat_turns : TurnsBits (nat_bits old) (nat_bits new) nat_turned
  pub others : (i : ℕ) → 192 + sit_ver_bitmap_bytesize old + nat_ver_bitmap_bytesize old ≤ i → slice_index new i ≡ slice_index old i

-- the next version of a checkpoint, so that this block, which follows the log of warm nodes, is not taken for one that was
-- written after it
abbrev pub next_version : ℕ → Block → ℕ
next_version version b = if (version + 1) % 2 ^ 32 == footer_cp_ver b % 2 ^ 32 then version + 2 else version + 1

-- ---- the tables

-- the entry that goes before that of a table's block: what the change gives, and else the journal
abbrev pub nat_changed : List (ℕ × HeldNatEntry) → List NatRecord → ℕ → Option NatEntry
nat_changed entries journal nid = option_or (nat_given entries nid) (nat_journal_entry journal nid)

abbrev pub sit_changed : List (ℕ × HeldSitEntry) → List SitRecord → ℕ → Option SitEntry
sit_changed entries journal segment = option_or (sit_given entries segment) (sit_journal_entry journal segment)

-- whether block k of a table has such an entry: it is written to its copy that is not in use
abbrev pub nat_turned : Layout → List (ℕ × HeldNatEntry) → List NatRecord → ℕ → Bool
nat_turned l entries journal = is_dirty 455 (nid_limit l) (nat_changed entries journal)

abbrev pub sit_turned : Layout → List (ℕ × HeldSitEntry) → List SitRecord → ℕ → Bool
sit_turned l entries journal = is_dirty 55 l.segments (sit_changed entries journal)

-- the blocks that are written, in ascending order
unfoldable pub turned_below : ℕ → (ℕ → Bool) → List ℕ
turned_below half turned = filter turned (numbers_below half)

-- where block k of a table has its copy that is not in use
abbrev pub nat_other_address : Layout → List ℕ → ℕ → ℕ
nat_other_address l bits k = l.nat + 2 * k - k % 512 + (if bit_msb bits k then 0 else 512)

abbrev pub sit_other_address : Layout → List ℕ → ℕ → ℕ
sit_other_address l bits k = l.sit + k + (if bit_msb bits k then 0 else l.sit_half)

-- ---- the summaries

-- the summary blocks that go to the summary area, with their addresses: those of segments that no new log fills
unfoldable pub stored_sums : Layout → List Log → List (ℕ × Block) → List (ℕ × Block)
stored_sums l logs sums = map (λ (w : ℕ × Block). (l.ssa + w.0, w.1)) (filter (λ (w : ℕ × Block). not (is_filled logs w.0)) sums)

-- what the summaries of a segment come from, if it becomes a log's: the change, or the old image where the segment is a
-- log's there, or zeros
abbrev pub summary_from : Image → Bool → ℕ → ℕ → Option Block → Summary
summary_from image was_log address k (Some b) = summary_entry b k
summary_from image was_log address k None = if was_log then summary image (address + k) else record { nid = 0; version = 0; place = 0 }

unfoldable pub next_summary : Image → List (ℕ × Block) → ℕ → ℕ → Summary
next_summary image sums segment k = summary_from image (is_log_segment (head image) segment) (segment_start (layout image) segment) k (given sums segment)

-- what stands behind the entries of a log's summary block: an empty journal, the kind of the log, and zeros
abbrev pub summary_end : ℕ → List ℕ
summary_end kind = replicate 507 0 ++ kind ∷ replicate 4 0

-- the kind of log t: 0 for data, 1 for nodes
abbrev pub kind_of : ℕ → ℕ
kind_of t = if nat_lt t 3 then 0 else 1
