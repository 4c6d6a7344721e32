-- Files laid out in an image: the nodes and the blocks of each, where they stand, and what the image says of them.
use Rattle.std.specs.Prelude.{◌≡◌, ◌⊎◌, ℕ, ◌+◌, ◌-◌, ◌<◌, ◌≤◌, Bool, not, ◌&&◌, ◌==◌, nat_lt, filter, sum_by, bit_and, Option, Some, IsTrue, IsFalse}
use Rattle.f2_bytes.specs.Bytes.{Block, Image, block_at, numbers_below, count_below}
use Rattle.f2_bytes.specs.Superblock.{layout, is_main}
use Rattle.f2_bytes.specs.Checkpoint.{head, log, is_log_segment, orphan_count, ckpt_flags, valid_block_count, valid_node_count, valid_inode_count, free_segment_count}
use Rattle.f2_bytes.specs.Journal.{NatEntry}
use Rattle.f2_bytes.specs.NodeAddressTable.{nid_limit, nat}
use Rattle.f2_bytes.specs.SegmentTable.{sit, is_block_valid, has_valid_block}
use Rattle.f2_bytes.specs.Summary.{summary, entry_type}
use Rattle.f2_bytes.specs.Node.{footer_nid, footer_ino, node_offset, blocks, xattr_nid, ext_fofs, ext_addr, ext_len, has_type, is_directory, is_regular, has_slots, address_count, locate, parent_of, child_address, offset_limit, attribute_offset, most_blocks}
use Rattle.f2_bytes.specs.RollForward.{chain_length}
use Rattle.f2_bytes.specs.Tree.{nid_in}
use Rattle.f2_bytes.specs.Check.{digit, extent_found, is_address, is_marked, kind_at}

-- the files, and where their nodes and blocks stand
pub record FilePlaces : Type 0 where
  -- whether there is a file of this number
  pub has_file : ℕ → Bool
  -- the number of the node of a file at an offset, 0 where it has none there
  pub nid : ℕ → ℕ → ℕ
  -- the address of the node of a number
  pub address : ℕ → ℕ
  -- the address of block k of a file, 0 for a hole, or the reserved value
  pub slot : ℕ → ℕ → ℕ

-- whether a file has a node at an offset, and the address of that node
abbrev pub has_node : FilePlaces → ℕ → ℕ → Bool
has_node p ino offset = not (p.nid ino offset == 0)

abbrev pub node_address : FilePlaces → ℕ → ℕ → ℕ
node_address p ino offset = p.address (p.nid ino offset)

-- the block of that node, and the inode
abbrev pub node_at : FilePlaces → Image → ℕ → ℕ → Block
node_at p image ino offset = block_at image (node_address p ino offset)

abbrev pub inode_at : FilePlaces → Image → ℕ → Block
inode_at p image ino = node_at p image ino 0

-- where the inode of a file says that the address of its block k stands: node offset and place
abbrev pub spot_at : FilePlaces → Image → ℕ → ℕ → Option (ℕ × ℕ)
spot_at p image ino k = locate k (address_count (inode_at p image ino))

-- whether block k of a file has an address: it is no hole and not reserved
abbrev pub has_block : FilePlaces → ℕ → ℕ → Bool
has_block p ino k = is_address (p.slot ino k)

-- how many nodes and how many blocks a file has; a reserved block counts
unfoldable pub nodes_of : FilePlaces → ℕ → ℕ
nodes_of p ino = count_below offset_limit (has_node p ino) + digit (has_node p ino attribute_offset)

unfoldable pub slots_of : FilePlaces → ℕ → ℕ
slots_of p ino = count_below most_blocks (λ k. not (p.slot ino k == 0))

-- the sum of a number over all files
abbrev pub over_files : FilePlaces → Image → (ℕ → ℕ) → ℕ
over_files p image f = sum_by f (filter p.has_file (numbers_below (nid_limit (layout image))))

-- a node, or a block of a file, stands at this address
abbrev pub HasNodeAt : FilePlaces → ℕ → Type 0
HasNodeAt p address = (ino : ℕ) × (offset : ℕ) × IsTrue (has_node p ino offset) × (node_address p ino offset ≡ address)

abbrev pub HasBlockAt : FilePlaces → ℕ → Type 0
HasBlockAt p address = (ino : ℕ) × (k : ℕ) × IsTrue (p.has_file ino) × (p.slot ino k ≡ address)

-- The image holds these files, each with its nodes and blocks there, and has nothing else in its tables.
pub record HoldsFiles (p : FilePlaces) (image : Image) : Type 0 where
  -- it was left in order
  pub flags : bit_and (ckpt_flags (head image)) 0x1018 ≡ 0
  pub orphans : orphan_count image ≡ 0
  pub chain : chain_length image ≡ 0
  -- nodes are those of files, at the offsets that nodes have, each below its parent; a file has its own number
  pub files : (ino offset : ℕ) → IsTrue (has_node p ino offset) → IsTrue (p.has_file ino)
  pub offsets : (ino offset : ℕ) → IsTrue (has_node p ino offset)
      → (offset < offset_limit) ⊎ (offset ≡ attribute_offset)
  pub parents : (ino offset : ℕ) (spot : ℕ × ℕ) → IsTrue (has_node p ino offset) → parent_of offset ≡ Some spot
      → IsTrue (has_node p ino spot.0)
  pub numbers : (ino : ℕ) → IsTrue (p.has_file ino) → (3 ≤ ino) × (p.nid ino 0 ≡ ino)
  -- the node table has them and no others
  pub entries : (ino offset : ℕ) → IsTrue (has_node p ino offset)
      → (e : NatEntry) × (nat image (p.nid ino offset) ≡ Some e) × (e.ino ≡ ino)
      × (e.address ≡ node_address p ino offset)
  pub no_other_entry : (nid : ℕ) (e : NatEntry) → nat image nid ≡ Some e
      → (ino : ℕ) × (offset : ℕ) × IsTrue (has_node p ino offset) × (p.nid ino offset ≡ nid)
  -- they stand in main, and their footers say which they are
  pub node_lands : (ino offset : ℕ) → IsTrue (has_node p ino offset)
      → IsTrue (is_main (layout image) (node_address p ino offset))
  pub footer_nids : (ino offset : ℕ) → IsTrue (has_node p ino offset)
      → footer_nid (node_at p image ino offset) ≡ p.nid ino offset
  pub footer_inos : (ino offset : ℕ) → IsTrue (has_node p ino offset)
      → footer_ino (node_at p image ino offset) ≡ ino
  pub footer_offsets : (ino offset : ℕ) → IsTrue (has_node p ino offset)
      → node_offset (node_at p image ino offset) ≡ offset
  -- each names those below it; a file without slots has just its inode and the attribute node
  pub nids : (ino offset : ℕ) (spot : ℕ × ℕ) → IsTrue (p.has_file ino) → IsTrue (has_slots (inode_at p image ino))
      → parent_of offset ≡ Some spot → IsTrue (has_node p ino spot.0)
      → nid_in spot (node_at p image ino spot.0) ≡ p.nid ino offset
  pub attribute_nids : (ino : ℕ) → IsTrue (p.has_file ino)
      → xattr_nid (inode_at p image ino) ≡ p.nid ino attribute_offset
  pub without_slots : (ino offset : ℕ) → IsFalse (has_slots (inode_at p image ino)) → IsTrue (has_node p ino offset)
      → (offset ≡ 0) ⊎ (offset ≡ attribute_offset)
  -- the inodes: of a known type, a directory the root, with the count of what they take, and no wrong extent
  pub root : IsTrue (p.has_file 3)
  pub root_type : IsTrue (is_directory (inode_at p image 3))
  pub types : (ino : ℕ) → IsTrue (p.has_file ino) → IsTrue (has_type (inode_at p image ino))
  pub sizes : (ino : ℕ) → IsTrue (p.has_file ino) → blocks (inode_at p image ino) ≡ nodes_of p ino + slots_of p ino
  pub extents : (ino k : ℕ) → IsTrue (p.has_file ino) → IsTrue (is_regular (inode_at p image ino))
      → ext_fofs (inode_at p image ino) ≤ k → k < ext_fofs (inode_at p image ino) + ext_len (inode_at p image ino)
      → extent_found (inode_at p image ino) (p.slot ino) k
      ≡ ext_addr (inode_at p image ino) + k - ext_fofs (inode_at p image ino)
  -- the address words hold the slots, and a slot that is no hole has such a word
  pub words : (ino k : ℕ) (spot : ℕ × ℕ) → IsTrue (p.has_file ino) → IsTrue (has_slots (inode_at p image ino))
      → spot_at p image ino k ≡ Some spot → IsTrue (has_node p ino spot.0)
      → child_address spot.0 (node_at p image ino spot.0) spot.1 ≡ p.slot ino k
  pub spots : (ino k : ℕ) → IsTrue (p.has_file ino) → IsTrue (not (p.slot ino k == 0))
      → IsTrue (has_slots (inode_at p image ino))
      × (spot : ℕ × ℕ) × (spot_at p image ino k ≡ Some spot) × IsTrue (has_node p ino spot.0)
  -- the blocks of files stand in main, no two of them at one address, and none where a node stands
  pub slot_lands : (ino k : ℕ) → IsTrue (p.has_file ino) → IsTrue (has_block p ino k)
      → IsTrue (is_main (layout image) (p.slot ino k))
  pub slots_apart : (ino k other j : ℕ) → IsTrue (p.has_file ino) → IsTrue (p.has_file other)
      → IsTrue (has_block p ino k) → p.slot ino k ≡ p.slot other j → (ino ≡ other) × (k ≡ j)
  pub slots_off_nodes : (ino k other offset : ℕ) → IsTrue (p.has_file ino) → IsTrue (has_block p ino k)
      → IsTrue (has_node p other offset) → p.slot ino k ≡ node_address p other offset → ⊥
  -- the segment table marks these places alone, in segments of their type
  pub node_marks : (ino offset : ℕ) → IsTrue (has_node p ino offset)
      → IsTrue (is_marked image (node_address p ino offset))
  pub slot_marks : (ino k : ℕ) → IsTrue (p.has_file ino) → IsTrue (has_block p ino k)
      → IsTrue (is_marked image (p.slot ino k))
  pub no_other_mark : (address : ℕ) → IsTrue (is_main (layout image) address) → IsTrue (is_marked image address)
      → HasNodeAt p address ⊎ HasBlockAt p address
  pub mark_counts : (segment : ℕ) → segment < (layout image).segments
      → (sit image segment).count ≡ count_below 512 (is_block_valid image segment)
  pub node_kinds : (ino offset : ℕ) → IsTrue (has_node p ino offset)
      → (3 ≤ kind_at image (node_address p ino offset)) × (kind_at image (node_address p ino offset) ≤ 5)
  pub slot_kinds : (ino k : ℕ) → IsTrue (p.has_file ino) → IsTrue (has_block p ino k)
      → kind_at image (p.slot ino k) ≤ 2
  -- the summaries lead from the blocks to their nodes
  pub node_summaries : (ino offset : ℕ) → IsTrue (has_node p ino offset)
      → (summary image (node_address p ino offset)).nid ≡ p.nid ino offset
  pub slot_summaries : (ino k : ℕ) (spot : ℕ × ℕ) → IsTrue (p.has_file ino) → IsTrue (has_block p ino k)
      → spot_at p image ino k ≡ Some spot
      → ((summary image (p.slot ino k)).nid ≡ p.nid ino spot.0) × ((summary image (p.slot ino k)).place ≡ spot.1)
  pub entry_types : (segment : ℕ) → segment < (layout image).segments → IsTrue (has_valid_block image segment)
      → IsFalse (is_log_segment (head image) segment)
      → entry_type (block_at image ((layout image).ssa + segment)) ≡ digit (nat_lt 2 (sit image segment).kind)
  -- the checkpoint counts the nodes, the blocks and the files, and the segments without any that are no log's
  pub valid_nodes : valid_node_count (head image) ≡ over_files p image (nodes_of p)
  pub valid_blocks :
      valid_block_count (head image) ≡ over_files p image (nodes_of p) + over_files p image (slots_of p)
  pub valid_inodes : valid_inode_count (head image) ≡ count_below (nid_limit (layout image)) p.has_file
  pub free_segments : free_segment_count (head image)
      ≡ count_below (layout image).segments
      (λ segment. not (has_valid_block image segment) && not (is_log_segment (head image) segment))
  -- the logs have segments of their own, of their type, with room where they write
  pub logs_apart : (t u : ℕ) → t < 6 → u < 6
      → (log (head image) t).segment ≡ (log (head image) u).segment → t ≡ u
  pub log_kinds : (t : ℕ) → t < 6 → IsTrue (has_valid_block image (log (head image) t).segment)
      → digit (nat_lt (sit image (log (head image) t).segment).kind 3) ≡ digit (nat_lt t 3)
  pub log_next : (t : ℕ) → t < 6
      → IsFalse (is_block_valid image (log (head image) t).segment (log (head image) t).offset)
  pub log_rest : (t k : ℕ) → t < 6 → k < 512 → (log (head image) t).allocation ≡ 0 → (log (head image) t).offset < k
      → IsFalse (is_block_valid image (log (head image) t).segment k)
