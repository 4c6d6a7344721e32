-- Blocks that move one after the other, and an image in which all that names them has followed.
use Rattle.std.specs.Prelude.{◌≡◌, ◌⊎◌, ℕ, ◌+◌, ◌<◌, Bool, false, ◌||◌, ◌&&◌, ◌==◌, nat_le, nat_lt, if◌then◌else◌, List, [], ◌∷◌, ◌++◌, drop, map, Some, None, option_map, unwrap_or, IsTrue}
use Rattle.std.specs.List.{list_any}
use Rattle.f2_bytes.specs.declared.layout.Layout.{Layout}
use Rattle.f2_bytes.specs.Bytes.{Block, Image, IsBlock, block_at, word}
use Rattle.f2_bytes.specs.Superblock.{layout}
use Rattle.f2_bytes.specs.Checkpoint.{head, next_free_nid}
use Rattle.f2_bytes.specs.Journal.{NatEntry}
use Rattle.f2_bytes.specs.NodeAddressTable.{nid_limit, nat, image_nat_entry}
use Rattle.f2_bytes.specs.Node.{node_offset, has_slots, is_direct, is_regular, address_count, ext_addr, ext_len}
use Rattle.f2_bytes.specs.Tree.{is_inode, tree_slot}
use Rattle.f2_bytes.specs.Check.{is_address, kind_at}
use Rattle.f2_bytes.specs.Moved.{moved_entry}
use Rattle.f2_bytes.specs.Defragment.{Placement, data_among, nodes_among, data_segments, put_at, is_covered}
use Rattle.f2_commit.specs.FreeNids.{least_free_nid}

-- ---- moves

-- a block moves from one address to another
pub record Move : Type 0 where
  pub from : ℕ
  pub to : ℕ

-- where a move brings the block at an address
abbrev pub moved_to : Move → ℕ → ℕ
moved_to m address = if m.from == address then m.to else address

-- where moves bring it, one after the other
unfoldable pub place_after : List Move → ℕ → ℕ
place_after [] address = address
place_after (m ∷ moves) address = place_after moves (moved_to m address)

-- one of them moves it
unfoldable pub is_moved : List Move → ℕ → Bool
is_moved [] address = false
is_moved (m ∷ moves) address = (m.from == address) || is_moved moves (moved_to m address)

-- The moves of one batch: the blocks of files at these addresses to the first targets, in order, and then the nodes that
-- move with them to the next ones.
unfoldable pub batch_moves : Layout → ℕ → List ℕ → List ℕ → Placement → List Move
batch_moves l nids addresses targets p =
    let data_blocks = data_among nids p addresses in
    let nodes = nodes_among nids p addresses in
    let node_targets = drop (data_segments nids p addresses) targets in
    let old = λ (nid : ℕ). unwrap_or (p.node nid) 0 in
    map (λ address. record { from = address; to = unwrap_or (put_at l targets data_blocks address) address }) data_blocks
    ++ map (λ nid. record { from = old nid; to = unwrap_or (put_at l node_targets nodes nid) (old nid) }) nodes

-- ---- what follows

-- a block leaves the extent of a regular file
unfoldable pub leaves_extent : List Move → Block → Bool
leaves_extent moves b = is_regular b && list_any (λ (m : Move). is_covered (ext_addr b, ext_len b) m.from) moves

-- word j of a node with the addresses to which the blocks that it names moved, and zeros for an extent that one of them left
unfoldable pub followed_word : List Move → Block → ℕ → ℕ
followed_word moves b j =
    if node_offset b == 0
    then (if has_slots b && nat_le 90 j && nat_lt j (90 + address_count b) then place_after moves (word b j)
    else (if nat_le 87 j && nat_lt j 90 && leaves_extent moves b then 0 else word b j))
    else (if is_direct (node_offset b) && nat_lt j 1018 then place_after moves (word b j) else word b j)

pub record IsFollowedNode (moves : List Move) (b new : Block) : Type 0 where
  pub block : IsBlock b
  pub new_block : IsBlock new
  pub words : (j : ℕ) → j < 1024 → word new j ≡ followed_word moves b j

-- the type of the segment in which a block stands: this one where it moved, and else the old one
abbrev pub HasKind : List Move → Image → Image → ℕ → ℕ → Type 0
HasKind moves image new kind address =
    kind_at new (place_after moves address) ≡ (if is_moved moves address then kind else kind_at image address)

-- The other image has all of this one where the moves brought it.
pub record HasFollowed (moves : List Move) (image new : Image) : Type 0 where
  pub areas : layout new ≡ layout image
  -- each node keeps its version and its inode, and its entry says where it stands now; all other entries stay
  pub table : (nid : ℕ) → nat new nid ≡ option_map (moved_entry (place_after moves)) (nat image nid)
  pub other_entries : (nid : ℕ) → nid < nid_limit (layout image) → nat image nid ≡ None
      → image_nat_entry new nid ≡ image_nat_entry image nid
  -- nodes are the same but for the addresses of blocks that moved, and for extents that these left
  pub nodes : (nid : ℕ) (e : NatEntry) → nat image nid ≡ Some e
      → IsFollowedNode moves (block_at image e.address) (block_at new (place_after moves e.address))
  -- blocks of files are the same, and no hole becomes one
  pub slots : (ino k : ℕ) → IsTrue (is_inode image ino)
      → tree_slot new ino k ≡ place_after moves (tree_slot image ino k)
  pub holes : (ino k : ℕ) → IsTrue (is_inode image ino)
      → is_address (tree_slot new ino k) ≡ is_address (tree_slot image ino k)
  pub files : (ino k : ℕ) → IsTrue (is_inode image ino) → IsTrue (is_address (tree_slot image ino k))
      → block_at new (tree_slot new ino k) ≡ block_at image (tree_slot image ino k)
  -- what moved stands in segments of warm data, and of warm nodes
  pub data_kinds : (ino k : ℕ) → IsTrue (is_inode image ino) → IsTrue (is_address (tree_slot image ino k))
      → HasKind moves image new 1 (tree_slot image ino k)
  pub node_kinds : (nid : ℕ) (e : NatEntry) → nat image nid ≡ Some e → HasKind moves image new 4 e.address
  -- a new node is looked for from the least free number on, unless nothing moved
  pub next_free : (next_free_nid (head new) ≡ least_free_nid new)
      ⊎ ((moves ≡ []) × (next_free_nid (head new) ≡ next_free_nid (head image)))
