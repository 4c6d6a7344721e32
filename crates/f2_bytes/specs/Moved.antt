-- Blocks that moved: an image and another one in which they stand elsewhere, and all that names them follows.
use Rattle.std.specs.Prelude.{◌≡◌, ℕ, ◌+◌, ◌-◌, ◌^◌, ◌<◌, ◌≤◌, Bool, not, ◌||◌, ◌&&◌, ◌==◌, nat_le, nat_lt, if◌then◌else◌, length, bit_and, Some, option_map, IsTrue, IsFalse}
use Rattle.std.specs.List.{list_any}
use Rattle.f2_bytes.specs.Bytes.{Block, Image, IsBlock, block_at, word, numbers_below, count_below}
use Rattle.f2_bytes.specs.Superblock.{layout, is_main}
use Rattle.f2_bytes.specs.Checkpoint.{head, pack, log, has_checkpoint, is_log_segment, orphan_count, ckpt_flags, valid_block_count, valid_node_count, valid_inode_count, free_segment_count}
use Rattle.f2_bytes.specs.Journal.{NatEntry, are_journals_bounded}
use Rattle.f2_bytes.specs.NodeAddressTable.{nat}
use Rattle.f2_bytes.specs.SegmentTable.{sit, is_block_valid, has_valid_block}
use Rattle.f2_bytes.specs.Summary.{summary, entry_type}
use Rattle.f2_bytes.specs.Node.{node_offset, has_slots, is_direct, is_regular, address_count, ext_addr, ext_len}
use Rattle.f2_bytes.specs.RollForward.{chain_length}
use Rattle.f2_bytes.specs.Tree.{is_inode, tree_slot, tree}
use Rattle.f2_bytes.specs.Check.{is_data, is_node, is_address, is_marked, kind_at, digit, slot_with, is_checked}

-- a block of a file, or a node, stands at this address of main (holes and reserved slots hold none)
abbrev pub is_used : Image → ℕ → Bool
is_used image address = is_main (layout image) address && (is_data image address || is_node image address)

-- the extent of a regular file covers an address whose block moved
unfoldable pub covers_moved : (ℕ → ℕ) → Block → Bool
covers_moved to b = is_regular b && list_any (λ i. not (to (ext_addr b + i) == ext_addr b + i)) (numbers_below (ext_len b))

-- word j of a node in which the addresses of blocks are the new ones; an extent of moved blocks is zeros
unfoldable pub moved_word : (ℕ → ℕ) → Block → ℕ → ℕ
moved_word to b j =
    if node_offset b == 0
    then (if has_slots b && nat_le 90 j && nat_lt j (90 + address_count b) then to (word b j)
    else (if nat_le 87 j && nat_lt j 90 && covers_moved to b then 0 else word b j))
    else (if is_direct (node_offset b) && nat_lt j 1018 then to (word b j) else word b j)

-- an entry of the node table, likewise
abbrev pub moved_entry : (ℕ → ℕ) → NatEntry → NatEntry
moved_entry to e = record { version = e.version; ino = e.ino; address = to e.address }

-- a node and the same after the move
pub record IsMovedNode (to : ℕ → ℕ) (b moved : Block) : Type 0 where
  pub old : IsBlock b
  pub new : IsBlock moved
  pub words : (j : ℕ) → j < 1024 → word moved j ≡ moved_word to b j

-- In the other image each block of this one stands at its new address; `to` gives it, and what did not move is its own.
pub record IsMoved (to : ℕ → ℕ) (image other : Image) : Type 0 where
  pub size : length other ≡ length image
  pub copies : (n : ℕ) → n < 2 → block_at other n ≡ block_at image n
  -- a pack counts, with bounded journals, the logs and the counts of before, no orphan, no chain and no error flag
  pub checkpoint : IsTrue (has_checkpoint other)
  pub journals : IsTrue (are_journals_bounded (pack other))
  pub logs : (t : ℕ) → t < 6 → log (head other) t ≡ log (head image) t
  pub flags : bit_and (ckpt_flags (head other)) 0x1018 ≡ 0
  pub orphans : orphan_count other ≡ 0
  pub chain : chain_length other ≡ 0
  pub valid_blocks : valid_block_count (head other) ≡ valid_block_count (head image)
  pub valid_nodes : valid_node_count (head other) ≡ valid_node_count (head image)
  pub valid_inodes : valid_inode_count (head other) ≡ valid_inode_count (head image)
  pub free_segments : free_segment_count (head other) ≡ count_below (layout image).segments (λ segment. not (has_valid_block other segment) && not (is_log_segment (head image) segment))
  -- holes and reserved slots stay; what is used goes to main, each block to a place of its own
  pub holes : to 0 ≡ 0
  pub reserved : to (2 ^ 32 - 1) ≡ 2 ^ 32 - 1
  pub lands : (address : ℕ) → IsTrue (is_used image address) → IsTrue (is_main (layout image) (to address))
  pub apart : (a b : ℕ) → IsTrue (is_used image a) → IsTrue (is_used image b) → to a ≡ to b → a ≡ b
  -- the nodes and the blocks of files
  pub table : (nid : ℕ) → nat other nid ≡ option_map (moved_entry to) (nat image nid)
  pub nodes : (nid : ℕ) (b : Block) (address : ℕ) → option_map (λ e. e.address) (nat image nid) ≡ Some address → block_at image address ≡ b → IsMovedNode to b (block_at other (to address))
  pub files : (ino k : ℕ) → IsTrue (is_inode image ino) → IsTrue (is_address (tree_slot image ino k)) → block_at other (to (tree_slot image ino k)) ≡ block_at image (tree_slot image ino k)
  -- the segment table marks their places, in segments of their type; the logs' segments gained none
  pub marks : (address : ℕ) → IsTrue (is_used image address) → IsTrue (is_marked other (to address))
  pub marked : (place : ℕ) → IsTrue (is_main (layout image) place) → IsTrue (is_marked other place) → (address : ℕ) × IsTrue (is_used image address) × (to address ≡ place)
  pub counts : (segment : ℕ) → segment < (layout image).segments → (sit other segment).count ≡ count_below 512 (is_block_valid other segment)
  pub data_kinds : (address : ℕ) → IsTrue (is_used image address) → IsTrue (is_data image address) → kind_at other (to address) ≤ 2
  pub node_kinds : (address : ℕ) → IsTrue (is_node image address) → (3 ≤ kind_at other (to address)) × (kind_at other (to address) ≤ 5)
  pub log_kinds : (t : ℕ) → t < 6 → (sit other (log (head image) t).segment).kind ≡ (sit image (log (head image) t).segment).kind
  pub log_marks : (t k : ℕ) → t < 6 → k < 512 → IsTrue (is_block_valid other (log (head image) t).segment k) → IsTrue (is_block_valid image (log (head image) t).segment k)
  -- the summaries go with them
  pub summaries : (address : ℕ) → IsTrue (is_used image address) → (summary other (to address)).nid ≡ (summary image address).nid
  pub places : (address : ℕ) (place : ℕ × ℕ) → IsTrue (is_used image address) → slot_with image address ≡ Some place → (summary other (to address)).place ≡ (summary image address).place
  pub entry_types : (segment : ℕ) → segment < (layout image).segments → IsTrue (has_valid_block other segment) → IsFalse (is_log_segment (head image) segment)
      → entry_type (block_at other ((layout image).ssa + segment)) ≡ digit (nat_lt 2 (sit other segment).kind)

-- a checked image whose blocks moved is checked, with the same tree
abbrev pub MovedKeepsTree : Type 0
MovedKeepsTree = (to : ℕ → ℕ) (image other : Image) → IsTrue (is_checked image) → IsMoved to image other → IsTrue (is_checked other) × (tree other ≡ tree image)

-- and each slot holds the new address
abbrev pub MovedSlots : Type 0
MovedSlots = (to : ℕ → ℕ) (image other : Image) → IsTrue (is_checked image) → IsMoved to image other → (ino k : ℕ) → IsTrue (is_inode image ino) → tree_slot other ino k ≡ to (tree_slot image ino k)
