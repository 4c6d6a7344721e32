-- What is kept of the pack that counts.
use Rattle.std.specs.Prelude.{◌≡◌, ℕ, ◌+◌, ◌-◌, ◌<◌, ◌≤◌, nat_lt, if◌then◌else◌, List, map, length, Option, Some, None}
use Rattle.std.specs.List.{range_with_len}
use Rattle.f2_bytes.specs.Bytes.{Block, IsBlock, block_at, bytes_at}
use Rattle.f2_bytes.specs.Checkpoint.{Pack, Log, log, pack_head, is_compact, has_node_summaries, compact_count, data_log_numbers, data_summary_blocks, node_summary_blocks, sit_ver_bitmap_bytesize, nat_ver_bitmap_bytesize, orphans}
use Rattle.f2_bytes.specs.Journal.{NatRecord, SitRecord, nat_records, sit_records, nat_journal_area, sit_journal_area, nat_room, sit_room, data_summary_start, node_summary_start}
use Rattle.f2_bytes.specs.Summary.{Summary, summary_at, summary_entry, compact_place}

pub record Held : Type 0 where
  -- the head, and the number of its pack
  pub head : Block
  pub number : ℕ
  -- the records of the two journals
  pub nat_journal : List NatRecord
  pub sit_journal : List SitRecord
  -- the inode numbers in the orphan blocks, in order
  pub orphan_inodes : List ℕ
  -- the summary blocks of the data logs, in one of their two forms, and those of the node logs, if there are any
  pub data_summaries : List Block
  pub node_summaries : List Block

-- the same, from its parts
abbrev pub held_of : Block → ℕ → List NatRecord × List SitRecord → List ℕ → List Block → List Block → Held
held_of head number journals orphan_inodes summaries nodes = record {
  head = head;
  number = number;
  nat_journal = journals.0;
  sit_journal = journals.1;
  orphan_inodes = orphan_inodes;
  data_summaries = summaries;
  node_summaries = nodes;
}

-- so many blocks of a pack, from one on
abbrev pub blocks_of : Pack → ℕ → ℕ → List Block
blocks_of pack start count = map pack (range_with_len start count)

-- what is kept of a pack with this number
abbrev pub chosen_of : Pack → ℕ → Held
chosen_of pack number =
    let head = pack_head pack in
    record {
      head = head;
      number = number;
      nat_journal = nat_records (nat_journal_area pack);
      sit_journal = sit_records (sit_journal_area pack);
      orphan_inodes = orphans pack;
      data_summaries = blocks_of pack (data_summary_start head) (data_summary_blocks head);
      node_summaries = blocks_of pack (node_summary_start head) (node_summary_blocks head);
    }

-- the journal areas in the summary blocks of the data logs of a pack with this head
abbrev pub nat_area_in : Block → List Block → List ℕ
nat_area_in head summaries = if is_compact head then bytes_at (block_at summaries 0) 0 507 else bytes_at (block_at summaries 0) 3584 507

abbrev pub sit_area_in : Block → List Block → List ℕ
sit_area_in head summaries = if is_compact head then bytes_at (block_at summaries 0) 507 507 else bytes_at (block_at summaries 2) 3584 507

-- entry k, below 512, of data log t in those blocks
abbrev pub data_summary_in : Block → List Block → ℕ → ℕ → Option Summary
data_summary_in head summaries t k =
    let place = compact_place (map (compact_count head) data_log_numbers) t k in
    if is_compact head
    then (if nat_lt k (compact_count head t) then Some (summary_at (block_at summaries place.0) place.1) else None)
    else Some (summary_entry (block_at summaries t) k)

-- The summary that is kept of block k of log t, if any: the compact form has no entry from a log's count on, and a
-- pack need not have summaries of the node logs. A log has 512 blocks.
abbrev pub held_summary : Held → ℕ → ℕ → Option Summary
held_summary h t k =
    if nat_lt k 512
    then (if nat_lt t 3
    then data_summary_in h.head h.data_summaries t k
    else (if has_node_summaries h.head then Some (summary_entry (block_at h.node_summaries (t - 3)) k) else None))
    else None

-- a log's offset lies in its segment, and it is said whether it reuses holes
pub record IsLog (at : Log) : Type 0 where
  pub offset : at.offset < 512
  pub allocation : at.allocation ≤ 1

-- what is known of it whatever the layout
pub record IsHeld (h : Held) : Type 0 where
  pub number : h.number < 2
  pub head : IsBlock h.head
  -- both version bitmaps stand in the head, from byte 192 on
  pub bitmaps : 192 + sit_ver_bitmap_bytesize h.head + nat_ver_bitmap_bytesize h.head ≤ 4092
  pub logs : (t : ℕ) → t < 6 → IsLog (log h.head t)
  pub nat_journal : length h.nat_journal ≤ nat_room
  pub sit_journal : length h.sit_journal ≤ sit_room
  pub data_summaries : length h.data_summaries ≡ data_summary_blocks h.head
  pub node_summaries : length h.node_summaries ≡ node_summary_blocks h.head
