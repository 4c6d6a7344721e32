-- Roll-forward: the chain of nodes that were written after the checkpoint, and which of them count.
use Rattle.std.specs.Prelude.{ℕ, zero, suc, ◌+◌, ◌*◌, ◌%◌, ◌^◌, Bool, not, ◌&&◌, ◌||◌, ◌==◌, nat_le, nat_lt, if◌then◌else◌, List, map, reverse, find, Option, Some, None, option_map, unwrap_or, is_some, bit_or}
use Rattle.std.specs.Option.{option_or}
use Rattle.std.specs.List.{list_all, list_any}
use Rattle.f2_bytes.specs.Bytes.{Block, Image, block_at, numbers_below}
use Rattle.f2_bytes.specs.Superblock.{layout, is_main, segment_start}
use Rattle.f2_bytes.specs.Checkpoint.{head, log, checkpoint_ver, checkpoint_checksum, has_crc_recovery, has_nocrc_recovery}
use Rattle.f2_bytes.specs.NodeAddressTable.{nid_limit, nat}
use Rattle.f2_bytes.specs.Node.{footer_nid, footer_ino, footer_cp_ver, footer_next, has_fsync_mark, has_dentry_mark, node_offset}

-- the node was written after the checkpoint with this head
abbrev pub is_of_version : Block → Block → Bool
is_of_version head b =
    if has_nocrc_recovery head then footer_cp_ver b % 2 ^ 32 == checkpoint_ver head % 2 ^ 32
    else (if has_crc_recovery head then footer_cp_ver b == bit_or (checkpoint_ver head) (2 ^ 32 * checkpoint_checksum head)
    else footer_cp_ver b == checkpoint_ver head)

-- the next block of the log of warm nodes
abbrev pub chain_start : Image → ℕ
chain_start image = segment_start (layout image) (log (head image) 4).segment + (log (head image) 4).offset

-- the address after n steps, each to the next address that a footer names
unfoldable pub chain_address : Image → ℕ → ℕ
chain_address image zero = chain_start image
chain_address image (suc n) = footer_next (block_at image (chain_address image n))

-- the chain has a node there: in main, not met before, written after the checkpoint
abbrev pub is_chain_node : Image → ℕ → Bool
is_chain_node image n =
    is_main (layout image) (chain_address image n)
    && list_all (λ m. not (chain_address image m == chain_address image n)) (numbers_below n)
    && is_of_version (head image) (block_at image (chain_address image n))

-- the number of nodes in the chain
unfoldable pub chain_length : Image → ℕ
chain_length image = unwrap_or (find (λ n. not (is_chain_node image n)) (numbers_below (512 * (layout image).segments + 1))) 0

-- the addresses of the chain, in order
abbrev pub chain : Image → List ℕ
chain image = map (chain_address image) (numbers_below (chain_length image))

-- the address behind the chain, where it lies in main
abbrev pub chain_stop : Image → Option ℕ
chain_stop image =
    let address = chain_address image (chain_length image) in
    if is_main (layout image) address then Some address else None

-- node n of the chain
abbrev pub chain_node : Image → ℕ → Block
chain_node image n = block_at image (chain_address image n)

-- node n of the chain is an inode of this number with both marks
abbrev pub is_marked_inode : Image → ℕ → ℕ → Bool
is_marked_inode image ino n =
    let b = chain_node image n in
    (footer_nid b == ino) && (footer_ino b == ino) && (node_offset b == 0) && has_fsync_mark b && has_dentry_mark b

-- node n of the chain ends an fsync of the file: the table has the file, or its inode came by then
abbrev pub ends_fsync : Image → ℕ → ℕ → Bool
ends_fsync image ino n =
    (footer_ino (chain_node image n) == ino)
    && has_fsync_mark (chain_node image n)
    && (is_some (nat image ino) || list_any (is_marked_inode image ino) (numbers_below (n + 1)))

-- node n of the chain counts: an fsync of its file ends there or later
unfoldable pub is_counting : Image → ℕ → Bool
is_counting image n = nat_lt n (chain_length image) && list_any (λ m. nat_le n m && ends_fsync image (footer_ino (chain_node image n)) m) (numbers_below (chain_length image))

-- the last place of the chain that passes the test
abbrev pub last_in_chain : Image → (ℕ → Bool) → Option ℕ
last_in_chain image test = find test (reverse (numbers_below (chain_length image)))

-- the place of the last counting node with this nid
abbrev pub last_counting_place : Image → ℕ → Option ℕ
last_counting_place image nid = last_in_chain image (λ n. is_counting image n && (footer_nid (chain_node image n) == nid))

-- where a node stands, and the inode that it belongs to
pub record NodePlace : Type 0 where
  pub ino : ℕ
  pub address : ℕ

abbrev pub chain_place : Image → ℕ → NodePlace
chain_place image n = record { ino = footer_ino (chain_node image n); address = chain_address image n }

-- the nodes after roll-forward: the last counting node of the chain goes before the table
unfoldable pub found_place : Image → ℕ → Option NodePlace
found_place image nid =
    if nat_le 3 nid && nat_lt nid (nid_limit (layout image))
    then option_or (option_map (chain_place image) (last_counting_place image nid))
    (option_map (λ e. record { ino = e.ino; address = e.address }) (nat image nid))
    else None

-- the block of a node, where it lies in main and its footer agrees
abbrev pub node_of : Image → ℕ → Option NodePlace → Option Block
node_of image nid None = None
node_of image nid (Some at) =
    let b = block_at image at.address in
    if is_main (layout image) at.address && (footer_nid b == nid) && (footer_ino b == at.ino) then Some b else None

unfoldable pub node_block : Image → ℕ → Option Block
node_block image nid = node_of image nid (found_place image nid)
