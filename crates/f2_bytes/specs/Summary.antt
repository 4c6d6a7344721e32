-- The summary of a main block: the node that it belongs to, and its place there.
use Rattle.std.specs.Prelude.{ℕ, ◌+◌, ◌-◌, ◌*◌, ◌/◌, ◌%◌, ◌==◌, nat_lt, if◌then◌else◌, List, ◌++◌, map, take, sum, find, Option, Some, None, unwrap_or}
use Rattle.byteorder.specs.Endian.{little_bytes}
use Rattle.f2_bytes.specs.declared.layout.Layout.{Layout}
use Rattle.f2_bytes.specs.Bytes.{Block, Image, block_at, number_at}
use Rattle.f2_bytes.specs.Node.{footer_nid}
use Rattle.f2_bytes.specs.Superblock.{layout, segment_of, place_of}
use Rattle.f2_bytes.specs.Checkpoint.{Pack, pack_head, pack, head, log, log_numbers, data_log_numbers, is_compact, compact_count, has_node_summaries}
use Rattle.f2_bytes.specs.Journal.{data_summary_start, node_summary_start}

pub record Summary : Type 0 where
  pub nid : ℕ
  pub version : ℕ
  pub place : ℕ

-- the summary in the 7 bytes from byte i on, and its bytes
abbrev pub summary_at : List ℕ → ℕ → Summary
summary_at b i = record { nid = number_at b i 4; version = number_at b (i + 4) 1; place = number_at b (i + 5) 2 }

abbrev pub summary_bytes : Summary → List ℕ
summary_bytes s = little_bytes 4 s.nid ++ little_bytes 1 s.version ++ little_bytes 2 s.place

-- entry k of a summary block, and the type of its entries: 0 for data, 1 for nodes
abbrev pub summary_entry : Block → ℕ → Summary
summary_entry b k = summary_at b (7 * k)

abbrev pub entry_type : Block → ℕ
entry_type b = number_at b 4091 1

-- block and byte of entry n of the compact form: 439 entries in the first block, 584 in each later one
abbrev pub compact_entry_place : ℕ → ℕ × ℕ
compact_entry_place n = if nat_lt n 439 then (0, 1014 + 7 * n) else (1 + (n - 439) / 584, 7 * ((n - 439) % 584))

-- where the compact form has entry k of data log t, with these counts of entries
abbrev pub compact_place : List ℕ → ℕ → ℕ → ℕ × ℕ
compact_place counts t k = compact_entry_place (sum (take t counts) + k)

-- the summary that a pack holds of block k of log t, if any
unfoldable pub pack_summary : Pack → ℕ → ℕ → Option Summary
pack_summary pack t k =
    let head = pack_head pack in
    let place = compact_place (map (compact_count head) data_log_numbers) t k in
    if nat_lt t 3
    then (if is_compact head
    then (if nat_lt k (compact_count head t) then Some (summary_at (pack (data_summary_start head + place.0)) place.1) else None)
    else Some (summary_entry (pack (data_summary_start head + t)) k))
    else (if has_node_summaries head then Some (summary_entry (pack (node_summary_start head + (t - 3))) k) else None)

-- without node summaries a node's footer says its nid; any other summary that the pack lacks is zeros
abbrev pub missing_summary : Image → ℕ → ℕ → Summary
missing_summary image t address = record { nid = if nat_lt t 3 then 0 else footer_nid (block_at image address); version = 0; place = 0 }

-- the least log whose segment this is
abbrev pub log_of : Block → ℕ → Option ℕ
log_of head segment = find (λ t. (log head t).segment == segment) log_numbers

-- the summary in the block for a segment that is no log's
abbrev pub stored_summary : Layout → Image → ℕ → Summary
stored_summary l image address = summary_entry (block_at image (l.ssa + segment_of l address)) (place_of l address)

-- the summary of a main block: the pack's where its segment is a log's
abbrev pub summary_in : Layout → Pack → Image → Option ℕ → ℕ → Summary
summary_in l pack image None address = stored_summary l image address
summary_in l pack image (Some t) address = unwrap_or (pack_summary pack t (place_of l address)) (missing_summary image t address)

unfoldable pub summary : Image → ℕ → Summary
summary image address = summary_in (layout image) (pack image) image (log_of (head image) (segment_of (layout image) address)) address
