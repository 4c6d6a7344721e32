-- What is read of the nodes of a chain.
use Rattle.std.specs.Prelude.{◌≡◌, ℕ, ◌==◌, nat_le, Bool, false, ◌&&◌, ◌||◌, List, map, is_some}
use Rattle.std.specs.BTreeMap.{BTreeMap, get}
use Rattle.std.specs.BTreeSet.{BTreeSet, contains}
use Rattle.std.specs.List.{list_any}
use Rattle.std.specs.Option.{option_map_or}
use Rattle.std.specs.Ordering.{nat_cmp}
use Rattle.f2_bytes.specs.Bytes.{Image, numbers_below}
use Rattle.f2_bytes.specs.Node.{footer_nid, footer_ino, node_offset, has_fsync_mark, has_dentry_mark}
use Rattle.f2_bytes.specs.NodeAddressTable.{nat}
use Rattle.f2_bytes.specs.RollForward.{chain_address, chain_length, chain_node, ends_fsync, is_counting}
use Rattle.f2_free.specs.declared.chain_reading.ChainNode.{ChainNode}

-- what is read of node n
abbrev pub node_read : Image → ℕ → ChainNode
node_read image n = record {
  nid = footer_nid (chain_node image n);
  ino = footer_ino (chain_node image n);
  address = chain_address image n;
  is_inode = node_offset (chain_node image n) == 0;
  fsync = has_fsync_mark (chain_node image n);
  dentry = has_dentry_mark (chain_node image n);
  listed = is_some (nat image (footer_ino (chain_node image n)));
}

-- of all nodes in order, and which of them count
abbrev pub nodes_read : Image → List ChainNode
nodes_read image = map (node_read image) (numbers_below (chain_length image))

abbrev pub counts_of : Image → List Bool
counts_of image = map (is_counting image) (numbers_below (chain_length image))

-- the node is the inode of this file with both marks
abbrev pub is_marked_by : ChainNode → ℕ → Bool
is_marked_by node ino = (node.nid == ino) && (node.ino == ino) && node.is_inode && node.fsync && node.dentry

-- an fsync of this file ends at the node, where those files have their inode in the chain by then
abbrev pub ends_by : BTreeSet ℕ → ChainNode → ℕ → Bool
ends_by marked node ino = (node.ino == ino) && node.fsync && (node.listed || contains nat_cmp marked node.ino)

-- one ends at place k or later, before place n
abbrev pub ends_from : Image → ℕ → ℕ → ℕ → Bool
ends_from image n ino k = list_any (λ m. nat_le k m && ends_fsync image ino m) (numbers_below n)

-- the map has the last place at which one ends, if any
abbrev pub ends_later : BTreeMap ℕ ℕ → ℕ → ℕ → Bool
ends_later ends ino k = option_map_or (nat_le k) (get nat_cmp ends ino) false

abbrev pub HasEnds : Image → ℕ → BTreeMap ℕ ℕ → Type 0
HasEnds image n ends = (ino k : ℕ) → ends_later ends ino k ≡ ends_from image n ino k
