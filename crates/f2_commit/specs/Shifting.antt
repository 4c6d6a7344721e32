-- The parts of the change that moves a batch, from the lists that are gathered of it.
use Rattle.std.specs.Prelude.{◌≡◌, true, ℕ, ◌+◌, ◌-◌, ◌*◌, ◌<◌, Bool, not, ◌&&◌, ◌==◌, nat_le, nat_lt, if◌then◌else◌, List, ◌++◌, map, filter, get_or, length, take, drop, unwrap_or}
use Rattle.std.specs.List.{list_any, All}
use Rattle.std.specs.List.Sorted.{IsStrictlyIncreasing}
use Rattle.f2_bytes.specs.declared.layout.Layout.{Layout}
use Rattle.f2_bytes.specs.Bits.{bit_msb}
use Rattle.f2_bytes.specs.Bytes.{Block, Image, IsBlock, block_at, word, numbers_below, count_below, quotient_up}
use Rattle.f2_bytes.specs.Checkpoint.{head, log, is_log_segment, user_block_count, valid_block_count, valid_node_count, valid_inode_count, free_segment_count}
use Rattle.f2_bytes.specs.Defragment.{is_among, is_covered, regular_extent, put_at, target_block}
use Rattle.f2_bytes.specs.Journal.{SitEntry, FitsSitEntry}
use Rattle.f2_bytes.specs.NodeAddressTable.{nid_limit, image_nat_entry}
use Rattle.f2_bytes.specs.Node.{node_offset, has_slots, is_direct, address_count}
use Rattle.f2_bytes.specs.SegmentTable.{sit, is_block_valid}
use Rattle.f2_bytes.specs.Summary.{Summary, summary_entry, entry_type}
use Rattle.f2_bytes.specs.Superblock.{layout, is_main, segment_of, segment_start}
use Rattle.f2_pack.specs.Logs.{log_of}
use Rattle.f2_sum.specs.Records.{nat_entry, sit_entry}
use Rattle.f2_sum.specs.declared.records.NatEntry.{NatEntry as HeldNatEntry}
use Rattle.f2_sum.specs.declared.records.SitEntry.{SitEntry as HeldSitEntry}
use Rattle.f2_change.specs.declared.change.Change.{Change}
use Rattle.f2_gather.specs.declared.gathering.MovedBlock.{MovedBlock}
use Rattle.f2_change.specs.Change.{log_at}
use Rattle.f2_gather.specs.Gathering.{addresses_of, moved_block}
use Rattle.f2_commit.specs.FreeNids.{least_free_nid}
use Rattle.f2_commit.specs.Moves.{moved_data, moved_nodes, node_summary}

-- ---- the blocks

-- the new address of a block of a file, where those at some addresses go to target segments in order
unfoldable pub placed_data : Layout → List ℕ → List ℕ → ℕ → ℕ
placed_data l targets addresses address = unwrap_or (put_at l targets addresses address) address

-- word j of a node with the new addresses of blocks, and zeros for an extent that covers one of them
unfoldable pub shifted_word : Layout → List ℕ → List ℕ → Block → ℕ → ℕ
shifted_word l targets addresses b j =
    if node_offset b == 0
    then (if has_slots b && nat_le 90 j && nat_lt j (90 + address_count b) then placed_data l targets addresses (word b j)
    else (if nat_le 87 j && nat_lt j 90 && list_any (is_covered (regular_extent b)) addresses then 0 else word b j))
    else (if is_direct (node_offset b) && nat_lt j 1018 then placed_data l targets addresses (word b j) else word b j)

pub record IsShifted (l : Layout) (targets addresses : List ℕ) (b new : Block) : Type 0 where
  pub block : IsBlock new
  pub words : (j : ℕ) → j < 1024 → word new j ≡ shifted_word l targets addresses b j

-- the addresses of nodes
abbrev pub node_addresses : List (ℕ × HeldNatEntry) → List ℕ
node_addresses nodes = map (λ (w : ℕ × HeldNatEntry). w.1.addr) nodes

-- the data blocks at their new places, in order
abbrev pub data_blocks : Image → Layout → List ℕ → List ℕ → List (ℕ × Block)
data_blocks image l targets addresses = map (λ n. (target_block l targets n, block_at image (get_or addresses n 0))) (numbers_below (length addresses))

-- the nodes at their new places, in order, with the new addresses of what they hold
pub record AreShifted (image : Image) (l : Layout) (targets addresses node_targets : List ℕ) (nodes : List (ℕ × HeldNatEntry)) (new : List (ℕ × Block)) : Type 0 where
  pub places : map (λ (w : ℕ × Block). w.0) new ≡ map (target_block l node_targets) (numbers_below (length nodes))
  pub blocks : (n : ℕ) → n < length nodes → IsShifted l targets addresses (block_at image (get_or (node_addresses nodes) n 0)) (get_or (map (λ (w : ℕ × Block). w.1) new) n (block_at image 0))

-- ---- the entries of nodes

-- the same nodes with their new addresses
pub record HavePlaces (l : Layout) (node_targets : List ℕ) (nodes new : List (ℕ × HeldNatEntry)) : Type 0 where
  pub nids : map (λ (w : ℕ × HeldNatEntry). w.0) new ≡ map (λ (w : ℕ × HeldNatEntry). w.0) nodes
  pub versions : map (λ (w : ℕ × HeldNatEntry). (nat_entry w.1).version) new ≡ map (λ (w : ℕ × HeldNatEntry). (nat_entry w.1).version) nodes
  pub inodes : map (λ (w : ℕ × HeldNatEntry). (nat_entry w.1).ino) new ≡ map (λ (w : ℕ × HeldNatEntry). (nat_entry w.1).ino) nodes
  pub addresses : node_addresses new ≡ map (target_block l node_targets) (numbers_below (length nodes))

-- ---- the segments

-- the entry of a segment that the blocks at some addresses leave
pub record IsEmptied (image : Image) (addresses : List ℕ) (segment : ℕ) (e : SitEntry) : Type 0 where
  pub kind : e.kind ≡ (sit image segment).kind
  pub bits : (k : ℕ) → k < 512 → bit_msb e.map k ≡ (is_block_valid image segment k && not (is_among addresses (segment_start (layout image) segment + k)))
  pub count : e.count ≡ count_below 512 (bit_msb e.map)

-- the entries of the segments that they leave, ascending
pub record AreEmptied (image : Image) (addresses : List ℕ) (new : List (ℕ × HeldSitEntry)) : Type 0 where
  pub rises : IsStrictlyIncreasing (map (λ (w : ℕ × HeldSitEntry). w.0) new)
  pub segments : (segment : ℕ) → is_among (map (λ (w : ℕ × HeldSitEntry). w.0) new) segment ≡ list_any (λ a. segment_of (layout image) a == segment) addresses
  pub entries : All (λ (w : ℕ × HeldSitEntry). IsEmptied image addresses w.0 (sit_entry w.1)) new

-- no block is valid any more, and no log fills the segment
abbrev pub is_freed : Block → ℕ × HeldSitEntry → Bool
is_freed head w = (w.1.count == 0) && not (is_log_segment head w.0)

-- the entry of the i-th segment that takes so many blocks
pub record IsTaken (of_kind blocks i : ℕ) (e : SitEntry) : Type 0 where
  pub kind : e.kind ≡ of_kind
  pub bits : (k : ℕ) → k < 512 → bit_msb e.map k ≡ nat_lt (512 * i + k) blocks
  pub count : e.count ≡ count_below 512 (bit_msb e.map)

-- the entries of the segments that take so many blocks of a type
pub record AreTaken (targets : List ℕ) (kind blocks : ℕ) (new : List (ℕ × HeldSitEntry)) : Type 0 where
  pub segments : map (λ (w : ℕ × HeldSitEntry). w.0) new ≡ take (quotient_up blocks 512) targets
  pub entries : (i : ℕ) (w : ℕ × HeldSitEntry) → i < length new → get_or new i w ≡ w → IsTaken kind blocks i (sit_entry w.1)

-- ---- the summaries

-- the summary of a block of a file
abbrev pub data_summary : MovedBlock → Summary
data_summary b = record { nid = b.nid; version = b.version; place = b.place }

-- a summary block of the i-th segment that takes these, each with its summary
pub record HasSums (of_kind : ℕ) (sums : List Summary) (i : ℕ) (b : Block) : Type 0 where
  pub kind : entry_type b ≡ of_kind
  pub entries : (k : ℕ) → k < 512 → 512 * i + k < length sums → summary_entry b k ≡ get_or sums (512 * i + k) (node_summary 0)

-- the summary blocks of the segments that take these
pub record AreSums (targets : List ℕ) (kind : ℕ) (sums : List Summary) (new : List (ℕ × Block)) : Type 0 where
  pub segments : map (λ (w : ℕ × Block). w.0) new ≡ take (quotient_up (length sums) 512) targets
  pub blocks : (i : ℕ) (w : ℕ × Block) → i < length new → get_or new i w ≡ w → HasSums kind sums i w.1

-- ---- the whole

-- what is gathered of the blocks at some addresses: the data blocks that move, and the nodes with their entries
pub record IsBatch (image : Image) (addresses : List ℕ) (moved : List MovedBlock) (nodes : List (ℕ × HeldNatEntry)) : Type 0 where
  pub data_addresses : addresses_of moved ≡ moved_data image addresses
  pub data_blocks : All (λ b. b ≡ moved_block image b.address) moved
  pub nids : map (λ (w : ℕ × HeldNatEntry). w.0) nodes ≡ moved_nodes image addresses
  pub entries : map (λ (w : ℕ × HeldNatEntry). nat_entry w.1) nodes ≡ map (image_nat_entry image) (moved_nodes image addresses)

-- the blocks of a batch: the data, and the nodes behind them
pub record HasBlocks (image : Image) (targets node_targets : List ℕ) (moved : List MovedBlock) (nodes : List (ℕ × HeldNatEntry)) (blocks : List (ℕ × Block)) : Type 0 where
  pub node_blocks : List (ℕ × Block)
  pub all : blocks ≡ data_blocks image (layout image) targets (addresses_of moved) ++ node_blocks
  pub shifted : AreShifted image (layout image) targets (addresses_of moved) node_targets nodes node_blocks

-- its entries of segments: those of the segments that are left, of which so many are freed, then those of the data and of the nodes
pub record HasSegments (image : Image) (targets node_targets : List ℕ) (moved : List MovedBlock) (nodes : List (ℕ × HeldNatEntry)) (freed : ℕ) (entries : List (ℕ × HeldSitEntry)) : Type 0 where
  pub left : List (ℕ × HeldSitEntry)
  pub data_entries : List (ℕ × HeldSitEntry)
  pub node_entries : List (ℕ × HeldSitEntry)
  pub all : entries ≡ left ++ data_entries ++ node_entries
  pub addresses : List ℕ
  -- all that are left, in any order
  pub same_addresses : (a : ℕ) → is_among addresses a ≡ is_among (addresses_of moved ++ node_addresses nodes) a
  pub emptied : AreEmptied image addresses left
  pub freed_count : freed ≡ length (filter (is_freed (head image)) left)
  pub data_taken : AreTaken targets 1 (length moved) data_entries
  pub node_taken : AreTaken node_targets 4 (length nodes) node_entries

-- its summary blocks: those of the data, and those of the nodes behind them
pub record HasSummaries (targets node_targets : List ℕ) (moved : List MovedBlock) (nodes : List (ℕ × HeldNatEntry)) (sums : List (ℕ × Block)) : Type 0 where
  pub data_sums : List (ℕ × Block)
  pub node_sums : List (ℕ × Block)
  pub all : sums ≡ data_sums ++ node_sums
  pub of_data : AreSums targets 0 (map data_summary moved) data_sums
  pub of_nodes : AreSums node_targets 1 (map node_summary (map (λ (w : ℕ × HeldNatEntry). w.0) nodes)) node_sums

-- a change with all parts of a batch, whose data go to the first targets and whose nodes to the next ones
pub record HasParts (image : Image) (targets node_targets : List ℕ) (moved : List MovedBlock) (nodes : List (ℕ × HeldNatEntry)) (c : Change) : Type 0 where
  pub behind : node_targets ≡ drop (quotient_up (length moved) 512) targets
  pub entries : HavePlaces (layout image) node_targets nodes c.nat.items
  pub blocks : HasBlocks image targets node_targets moved nodes c.blocks.items
  pub freed : ℕ
  pub segments : HasSegments image targets node_targets moved nodes freed c.sit.items
  pub sums : HasSummaries targets node_targets moved nodes c.sums.items
  pub six : length c.logs ≡ 6
  pub logs : (t : ℕ) → t < 6 → log_of (log_at c.logs t) ≡ log (head image) t
  pub user : c.counts.user ≡ user_block_count (head image)
  pub valid : c.counts.valid ≡ valid_block_count (head image)
  pub node_count : c.counts.nodes ≡ valid_node_count (head image)
  pub inode_count : c.counts.inodes ≡ valid_inode_count (head image)
  pub next_free : c.counts.next_nid ≡ least_free_nid image
  pub free : c.counts.free ≡ free_segment_count (head image) + freed - (quotient_up (length moved) 512 + quotient_up (length nodes) 512)

-- What is known of it whatever the disk: its numbers lie where they may.
pub record IsSafe (l : Layout) (c : Change) : Type 0 where
  pub blocks : All (λ (w : ℕ × Block). is_main l w.0 ≡ true) c.blocks.items
  pub sums : All (λ (w : ℕ × Block). w.0 < l.segments) c.sums.items
  pub nids : All (λ (w : ℕ × HeldNatEntry). w.0 < nid_limit l) c.nat.items
  pub segments : All (λ (w : ℕ × HeldSitEntry). (w.0 < l.segments) × FitsSitEntry (sit_entry w.1)) c.sit.items
  pub logs : All (λ at. (at.segno < l.segments) × (at.offset < 512)) c.logs
