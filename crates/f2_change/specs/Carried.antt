-- What is prepared for a change, and what the image says that carries it.
use Rattle.std.specs.Prelude.{◌≡◌, ℕ, ◌+◌, ◌-◌, ◌<◌, true, if◌then◌else◌, List, [], ◌++◌, map, length, drop, Some, unwrap_or}
use Rattle.f2_bytes.specs.declared.layout.Layout.{Layout}
use Rattle.f2_bytes.specs.Bytes.{Block, Image, block_at}
use Rattle.f2_bytes.specs.Checkpoint.{checkpoint_ver, user_block_count, valid_block_count, rsvd_segment_count, overprov_segment_count, free_segment_count, valid_node_count, valid_inode_count, next_free_nid, ckpt_flags, sit_bits, nat_bits, head, log, pack, pack_number, has_checkpoint, orphans}
use Rattle.f2_bytes.specs.NodeAddressTable.{nid_limit, image_nat_entry, nat_journal}
use Rattle.f2_bytes.specs.RollForward.{chain_length}
use Rattle.f2_bytes.specs.SegmentTable.{sit, sit_journal}
use Rattle.f2_bytes.specs.Summary.{pack_summary}
use Rattle.f2_bytes.specs.Superblock.{layout, is_main, segment_start}
use Rattle.f2_pack.specs.declared.checkpoint.Log.{Log}
use Rattle.f2_pack.specs.declared.writing.NewPack.{NewPack}
use Rattle.f2_pack.specs.Logs.{log_of}
use Rattle.f2_pack.specs.Written.{written}
use Rattle.f2_view.specs.Mounted.{Mounted, HasCopies, layout_in}
use Rattle.f2_change.specs.declared.change.Change.{Change}
use Rattle.f2_change.specs.Change.{given, nat_given, sit_given, log_at, is_filled, next_rows, IsNextHead, next_version, nat_turned, sit_turned, turned_below, nat_other_address, sit_other_address, stored_sums, next_summary, summary_end, kind_of}
use Rattle.f2_change.specs.Writes.{Prepared}

-- the next block of a log
abbrev pub next_address : Layout → Log → ℕ
next_address l at = segment_start l at.segno + at.offset

-- The pack and the blocks that are prepared for a change of what a mount keeps: the blocks of the change, the summary blocks,
-- and those of the two tables in ascending order.
pub record IsFor (m : Mounted) (c : Change) (r : Prepared) : Type 0 where
  pub new_head : IsNextHead m.chosen.head (next_rows (checkpoint_ver r.pack.head) c.logs c.counts) (sit_turned (layout_in m) c.sit.items m.chosen.sit_journal) (nat_turned (layout_in m) c.nat.items m.chosen.nat_journal) r.pack.head
  pub six : length r.pack.sums ≡ 6
  -- behind its entries a log's summary block has an empty journal and the kind of the log
  pub ends : (t : ℕ) → t < 6 → drop 3584 (block_at r.pack.sums t) ≡ summary_end (kind_of t)
  pub sit_blocks : List (ℕ × Block)
  pub nat_blocks : List (ℕ × Block)
  pub all_blocks : r.blocks ≡ c.blocks.items ++ stored_sums (layout_in m) c.logs c.sums.items ++ sit_blocks ++ nat_blocks
  pub sit_addresses : map (λ (w : ℕ × Block). w.0) sit_blocks ≡ map (sit_other_address (layout_in m) (sit_bits m.chosen.head)) (turned_below (layout_in m).sit_half (sit_turned (layout_in m) c.sit.items m.chosen.sit_journal))
  pub nat_addresses : map (λ (w : ℕ × Block). w.0) nat_blocks ≡ map (nat_other_address (layout_in m) (nat_bits m.chosen.head)) (turned_below (layout_in m).nat_half (nat_turned (layout_in m) c.nat.items m.chosen.nat_journal))

-- The image that carries a change, with this pack: the same superblock copies, and a checkpoint whose every part is the
-- change's, or else that of the old image.
pub record Carries (image : Image) (c : Change) (p : NewPack) (new : Image) : Type 0 where
  pub size : length new ≡ length image
  pub copies : HasCopies new image
  pub areas : layout new ≡ layout image
  -- the pack that counts is the other one, as it was written
  pub checkpoint : has_checkpoint new ≡ true
  pub number : pack_number new ≡ 1 - pack_number image
  pub pack_blocks : (j : ℕ) → j < 8 → pack new j ≡ written p j
  pub no_nat_journal : nat_journal new ≡ []
  pub no_sit_journal : sit_journal new ≡ []
  pub no_orphans : orphans (pack new) ≡ []
  -- a clean unmount, and a checksum
  pub flags_given : ckpt_flags (head new) ≡ 0x41
  pub logs_given : (t : ℕ) → t < 6 → log (head new) t ≡ log_of (log_at c.logs t)
  pub user : user_block_count (head new) ≡ c.counts.user
  pub valid : valid_block_count (head new) ≡ c.counts.valid
  pub nodes : valid_node_count (head new) ≡ c.counts.nodes
  pub inodes : valid_inode_count (head new) ≡ c.counts.inodes
  pub free : free_segment_count (head new) ≡ c.counts.free
  pub reserved : rsvd_segment_count (head new) ≡ rsvd_segment_count (head image)
  pub overprovision : overprov_segment_count (head new) ≡ overprov_segment_count (head image)
  pub next_nid : next_free_nid (head new) ≡ c.counts.next_nid
  pub version : checkpoint_ver (head new) ≡ next_version (checkpoint_ver (head image)) (block_at new (next_address (layout image) (log_at c.logs 4)))
  -- no node was written after it
  pub no_chain : chain_length new ≡ 0
  pub nat_entries : (nid : ℕ) → nid < nid_limit (layout image) → image_nat_entry new nid ≡ unwrap_or (nat_given c.nat.items nid) (image_nat_entry image nid)
  pub sit_entries : (segment : ℕ) → segment < (layout image).segments → sit new segment ≡ unwrap_or (sit_given c.sit.items segment) (sit image segment)
  pub main_blocks : (address : ℕ) → is_main (layout image) address ≡ true → block_at new address ≡ unwrap_or (given c.blocks.items address) (block_at image address)
  -- the summary block of a segment that a new log fills goes into the pack alone
  pub summary_blocks : (segment : ℕ) → segment < (layout image).main - (layout image).ssa → block_at new ((layout image).ssa + segment) ≡ (if is_filled c.logs segment then block_at image ((layout image).ssa + segment) else unwrap_or (given c.sums.items segment) (block_at image ((layout image).ssa + segment)))
  pub log_summaries : (t k : ℕ) → t < 6 → k < 512 → pack_summary (pack new) t k ≡ Some (next_summary image c.sums.items (log_at c.logs t).segno k)
