-- One batch of moves, as a change of an image.
use Rattle.std.specs.Prelude.{◌≡◌, ℕ, ◌+◌, ◌-◌, ◌*◌, ◌<◌, ◌≤◌, Bool, not, ◌&&◌, ◌||◌, ◌==◌, if◌then◌else◌, List, [], get_or, length, drop, Some, None, unwrap_or, IsTrue, IsFalse}
use Rattle.std.specs.Option.{option_map_or}
use Rattle.std.specs.List.{list_any, All}
use Rattle.f2_bytes.specs.Bits.{bit_msb}
use Rattle.f2_bytes.specs.Bytes.{Block, Image, block_at, numbers_below, count_below, quotient_up}
use Rattle.f2_bytes.specs.Checkpoint.{head, log, is_log_segment, user_block_count, valid_block_count, rsvd_segment_count, overprov_segment_count, valid_node_count, valid_inode_count, next_free_nid}
use Rattle.f2_bytes.specs.Check.{is_checked, nid_with}
use Rattle.f2_bytes.specs.Defragment.{Placement, placement, is_among, data_among, nodes_among, data_segments, batch_need, put_at, target_block, moved_batch}
use Rattle.f2_bytes.specs.Journal.{SitEntry}
use Rattle.f2_bytes.specs.NodeAddressTable.{nid_limit, image_nat_entry, nat_journal}
use Rattle.f2_bytes.specs.SegmentTable.{sit, is_block_valid, sit_journal}
use Rattle.f2_bytes.specs.Summary.{Summary, summary, summary_entry, entry_type}
use Rattle.f2_bytes.specs.Superblock.{layout, segment_start}
use Rattle.f2_bytes.specs.Support.{is_free}
use Rattle.f2_pack.specs.Logs.{log_of}
use Rattle.f2_change.specs.declared.change.Change.{Change}
use Rattle.f2_change.specs.Change.{given, nat_given, sit_given, log_at}
use Rattle.f2_bytes.specs.Tree.{tree}
use Rattle.f2_bytes.specs.Moved.{IsMovedNode, IsMoved, moved_entry}
use Rattle.f2_commit.specs.FreeNids.{least_free_nid}
use Rattle.f2_commit.specs.Following.{HasFollowed, batch_moves}

-- the data blocks that move with the blocks at these addresses, and the nodes
abbrev pub moved_data : Image → List ℕ → List ℕ
moved_data image addresses = data_among (nid_limit (layout image)) (placement image) addresses

abbrev pub moved_nodes : Image → List ℕ → List ℕ
moved_nodes image addresses = nodes_among (nid_limit (layout image)) (placement image) addresses

-- the segments that take the data, and those that take the nodes
abbrev pub data_target_count : Image → List ℕ → ℕ
data_target_count image addresses = data_segments (nid_limit (layout image)) (placement image) addresses

abbrev pub node_targets : Image → List ℕ → List ℕ → List ℕ
node_targets image addresses targets = drop (data_target_count image addresses) targets

abbrev pub node_target_count : Image → List ℕ → ℕ
node_target_count image addresses = quotient_up (length (moved_nodes image addresses)) 512

-- A checked image with the tree of another one, and with its superblock copies: what each moment of a move leaves.
abbrev pub HasSameFiles : Image → Image → Type 0
HasSameFiles image left = IsTrue (is_checked left) × (tree left ≡ tree image) × ((n : ℕ) → n < 2 → block_at left n ≡ block_at image n)

-- what a batch takes: different free segments, as many as it needs
pub record AreTargets (image : Image) (addresses targets : List ℕ) : Type 0 where
  pub free : All (λ segment. IsTrue (is_free image segment)) targets
  pub different : (i j : ℕ) → i < length targets → j < length targets → get_or targets i 0 ≡ get_or targets j 0 → i ≡ j
  pub enough : batch_need (nid_limit (layout image)) (placement image) addresses ≤ length targets

-- where a moved data block goes, and a moved node: each in order to the next place of the targets
abbrev pub data_place : Image → List ℕ → List ℕ → ℕ → ℕ → Type 0
data_place image addresses targets address place = put_at (layout image) targets (moved_data image addresses) address ≡ Some place

abbrev pub node_place : Image → List ℕ → List ℕ → ℕ → ℕ → Type 0
node_place image addresses targets nid place = put_at (layout image) (node_targets image addresses targets) (moved_nodes image addresses) nid ≡ Some place

-- the new address of the block at an address; what does not move keeps its own
unfoldable pub new_address : Image → List ℕ → List ℕ → ℕ → ℕ
new_address image addresses targets address =
    unwrap_or (put_at (layout image) targets (moved_data image addresses) address)
    (option_map_or (λ nid. unwrap_or (put_at (layout image) (node_targets image addresses targets) (moved_nodes image addresses) nid) address) (nid_with image address) address)

-- a block at this address moves
abbrev pub is_moving : Image → List ℕ → List ℕ → ℕ → Bool
is_moving image addresses targets address = not (new_address image addresses targets address == address)

-- a place of the targets is taken: that of data block n, or of node n, where there are as many
abbrev pub is_taken : Image → List ℕ → List ℕ → ℕ → Bool
is_taken image addresses targets place =
    list_any (λ n. target_block (layout image) targets n == place) (numbers_below (length (moved_data image addresses)))
    || list_any (λ n. target_block (layout image) (node_targets image addresses targets) n == place) (numbers_below (length (moved_nodes image addresses)))

-- the entry of a segment after a change
abbrev pub sit_after : Image → Change → ℕ → SitEntry
sit_after image c segment = unwrap_or (sit_given c.sit.items segment) (sit image segment)

-- the summary of a node
abbrev pub node_summary : ℕ → Summary
node_summary n = record { nid = n; version = 0; place = 0 }

-- The change that moves a batch to its targets.
pub record MovesBatch (image : Image) (addresses targets : List ℕ) (c : Change) : Type 0 where
  -- the moved nodes, and no others, get their new addresses
  pub entries : (nid : ℕ) → nid < nid_limit (layout image) → nat_given c.nat.items nid ≡ (if is_among (moved_nodes image addresses) nid then Some (moved_entry (new_address image addresses targets) (image_nat_entry image nid)) else None)
  -- the blocks at their new places: data as they are, nodes with the new addresses of what they hold
  pub data_blocks : (address place : ℕ) → data_place image addresses targets address place → given c.blocks.items place ≡ Some (block_at image address)
  pub node_blocks : (nid place : ℕ) → node_place image addresses targets nid place
      → (b : Block) × (given c.blocks.items place ≡ Some b) × IsMovedNode (new_address image addresses targets) (block_at image (image_nat_entry image nid).address) b
  pub no_others : (place : ℕ) → IsFalse (is_taken image addresses targets place) → given c.blocks.items place ≡ None
  -- the segments that are left lose their marks, and the targets gain theirs
  pub marks : (segment k : ℕ) → segment < (layout image).segments → k < 512 → bit_msb (sit_after image c segment).map k ≡ ((is_block_valid image segment k && not (is_moving image addresses targets (segment_start (layout image) segment + k))) || is_taken image addresses targets (segment_start (layout image) segment + k))
  pub counts_marks : (segment : ℕ) → segment < (layout image).segments → (sit_after image c segment).count ≡ count_below 512 (bit_msb (sit_after image c segment).map)
  pub data_kinds : (i : ℕ) → i < data_target_count image addresses → (sit_after image c (get_or targets i 0)).kind ≡ 1
  pub node_kinds : (i : ℕ) → i < node_target_count image addresses → (sit_after image c (get_or (node_targets image addresses targets) i 0)).kind ≡ 4
  pub old_kinds : (segment : ℕ) → IsFalse (is_free image segment) → (sit_after image c segment).kind ≡ (sit image segment).kind
  -- the summaries of the targets: the whole ones of the moved data blocks, and the numbers of the nodes
  pub data_sums : (i : ℕ) → i < data_target_count image addresses → (b : Block) × (given c.sums.items (get_or targets i 0) ≡ Some b) × (entry_type b ≡ 0)
      × ((k : ℕ) → k < 512 → 512 * i + k < length (moved_data image addresses) → summary_entry b k ≡ summary image (get_or (moved_data image addresses) (512 * i + k) 0))
  pub node_sums : (i : ℕ) → i < node_target_count image addresses → (b : Block) × (given c.sums.items (get_or (node_targets image addresses targets) i 0) ≡ Some b) × (entry_type b ≡ 1)
      × ((k : ℕ) → k < 512 → 512 * i + k < length (moved_nodes image addresses) → summary_entry b k ≡ node_summary (get_or (moved_nodes image addresses) (512 * i + k) 0))
  pub no_other_sums : (segment : ℕ) → IsFalse (is_free image segment) → given c.sums.items segment ≡ None
  -- logs and counts stay, but for the number of free segments, and for where a new node is looked for
  pub six : length c.logs ≡ 6
  pub same_logs : (t : ℕ) → t < 6 → log_of (log_at c.logs t) ≡ log (head image) t
  pub same_user : c.counts.user ≡ user_block_count (head image)
  pub same_valid : c.counts.valid ≡ valid_block_count (head image)
  pub same_nodes : c.counts.nodes ≡ valid_node_count (head image)
  pub same_inodes : c.counts.inodes ≡ valid_inode_count (head image)
  pub next_free : c.counts.next_nid ≡ least_free_nid image
  pub free_segments : c.counts.free ≡ count_below (layout image).segments (λ segment. not (list_any (bit_msb (sit_after image c segment).map) (numbers_below 512)) && not (is_log_segment (head image) segment))

-- Everything stands at the same places: nodes, blocks of files and extents, and the nodes that hold the addresses of blocks
-- (where a file has no block, no node is asked for).
pub record AreSamePlaces (p q : Placement) : Type 0 where
  pub nodes : (nid : ℕ) → q.node nid ≡ p.node nid
  pub slots : (ino k : ℕ) → q.slot ino k ≡ p.slot ino k
  pub extents : (ino : ℕ) → q.extent ino ≡ p.extent ino
  pub holders : (ino k : ℕ) → (p.slot ino k ≡ 0 → ⊥) → q.holder ino k ≡ p.holder ino k

-- An image after a batch: its blocks moved, it is checked, with the same tree, all stands where the batch says, the targets
-- that the batch does not need are free still, the counts of what users may have stay, and both journals are empty.
pub record HasMoved (image new : Image) (addresses targets : List ℕ) : Type 0 where
  pub blocks : IsMoved (new_address image addresses targets) image new
  pub checked : IsTrue (is_checked new)
  pub same_tree : tree new ≡ tree image
  pub placed : AreSamePlaces (moved_batch (layout image) (nid_limit (layout image)) addresses targets (placement image)) (placement new)
  pub left_free : All (λ segment. IsTrue (is_free new segment)) (drop (batch_need (nid_limit (layout image)) (placement image) addresses) targets)
  pub user : user_block_count (head new) ≡ user_block_count (head image)
  pub reserved : rsvd_segment_count (head new) ≡ rsvd_segment_count (head image)
  pub overprovision : overprov_segment_count (head new) ≡ overprov_segment_count (head image)
  pub no_nat_journal : nat_journal new ≡ []
  pub no_sit_journal : sit_journal new ≡ []
  -- all that names the blocks has followed, and a new node is looked for from the least free number on
  pub followed : HasFollowed (batch_moves (layout image) (nid_limit (layout image)) addresses targets (placement image))
      image new
  pub next_free : next_free_nid (head new) ≡ least_free_nid new
