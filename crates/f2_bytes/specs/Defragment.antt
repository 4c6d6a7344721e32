-- Moving blocks: which ones a range makes move, where to, and how many segments that takes.
use Rattle.std.specs.Prelude.{ℕ, ◌+◌, ◌-◌, ◌*◌, ◌/◌, ◌%◌, min, max, Bool, false, ◌||◌, ◌&&◌, ◌==◌, nat_le, nat_lt, if◌then◌else◌, List, [], ◌∷◌, ◌++◌, get_or, length, drop, map, reverse, filter, position, flat_map, sum_by, Option, Some, None, option_map, unwrap_or}
use Rattle.std.specs.Option.{option_map_or}
use Rattle.std.specs.List.{list_any, range_with_len}
use Rattle.f2_bytes.specs.declared.layout.Layout.{Layout}
use Rattle.f2_bytes.specs.Bytes.{Block, Image, numbers_below, quotient_up}
use Rattle.f2_bytes.specs.Superblock.{layout, segment_of, segment_start}
use Rattle.f2_bytes.specs.Node.{is_regular, ext_addr, ext_len, most_blocks}
use Rattle.f2_bytes.specs.NodeAddressTable.{nat, nid_limit}
use Rattle.f2_bytes.specs.Tree.{read_node, is_inode, tree_slot}
use Rattle.f2_bytes.specs.Check.{nid_of_spot}
use Rattle.f2_bytes.specs.Support.{free_segments}

-- ---- where everything stands

-- where the nodes and the blocks of files stand, in which node a block has its address, and the extents
pub record Placement : Type 0 where
  -- the address of a node
  pub node : ℕ → Option ℕ
  -- the address of block k of a file
  pub slot : ℕ → ℕ → ℕ
  -- the node that holds that address
  pub holder : ℕ → ℕ → ℕ
  -- the first address and the length of the extent of a regular file
  pub extent : ℕ → ℕ × ℕ

abbrev pub regular_extent : Block → ℕ × ℕ
regular_extent b = if is_regular b then (ext_addr b, ext_len b) else (0, 0)

-- where everything stands in a checked image
unfoldable pub placement : Image → Placement
placement image = record {
  node = λ nid. option_map (λ e. e.address) (nat image nid);
  slot = λ ino k. if is_inode image ino then tree_slot image ino k else 0;
  holder = λ ino k. nid_of_spot image (ino, k);
  extent = λ ino. if is_inode image ino then option_map_or regular_extent (read_node image ino) (0, 0) else (0, 0);
}

-- every file with every number of a block, where nids are below a limit
unfoldable pub all_places : ℕ → List (ℕ × ℕ)
all_places nids = flat_map (λ ino. map (λ k. (ino, k)) (numbers_below most_blocks)) (numbers_below nids)

-- a number among those of a list
abbrev pub is_among : List ℕ → ℕ → Bool
is_among xs x = list_any (λ y. y == x) xs

-- the addresses of a list at which a block of a file stands, in order
unfoldable pub data_among : ℕ → Placement → List ℕ → List ℕ
data_among nids p addresses = filter (λ address. list_any (λ place. p.slot place.0 place.1 == address) (all_places nids)) addresses

abbrev pub is_covered : ℕ × ℕ → ℕ → Bool
is_covered extent address = nat_le extent.0 address && nat_lt address (extent.0 + extent.1)

-- a node has to move: it stands there, holds a moved address, or has an extent that covers one
abbrev pub is_moved_node : ℕ → Placement → List ℕ → List ℕ → ℕ → Bool
is_moved_node nids p addresses moved nid =
    option_map_or (is_among addresses) (p.node nid) false
    || list_any (λ place. is_among moved (p.slot place.0 place.1) && (p.holder place.0 place.1 == nid)) (all_places nids)
    || list_any (is_covered (p.extent nid)) moved

-- the nodes that move with the blocks at these addresses, in order
unfoldable pub nodes_among : ℕ → Placement → List ℕ → List ℕ
nodes_among nids p addresses = filter (is_moved_node nids p addresses (data_among nids p addresses)) (numbers_below nids)

-- the segments that one batch takes
abbrev pub data_segments : ℕ → Placement → List ℕ → ℕ
data_segments nids p addresses = quotient_up (length (data_among nids p addresses)) 512

abbrev pub batch_need : ℕ → Placement → List ℕ → ℕ
batch_need nids p addresses = data_segments nids p addresses + quotient_up (length (nodes_among nids p addresses)) 512

-- ---- one batch

-- block n of the target segments, one after the other
abbrev pub target_block : Layout → List ℕ → ℕ → ℕ
target_block l targets n = segment_start l (get_or targets (n / 512) 0) + n % 512

-- the new address of an element of a list that is put into the target segments in order
abbrev pub put_at : Layout → List ℕ → List ℕ → ℕ → Option ℕ
put_at l targets moved x = option_map (target_block l targets) (position (λ y. y == x) moved)

-- everything after the blocks at these addresses were moved: data to the first targets, nodes to the next
unfoldable pub moved_batch : Layout → ℕ → List ℕ → List ℕ → Placement → Placement
moved_batch l nids addresses targets p =
    let data_blocks = data_among nids p addresses in
    let nodes = nodes_among nids p addresses in
    let node_targets = drop (data_segments nids p addresses) targets in
    record {
      node = λ nid. option_map (λ old. unwrap_or (put_at l node_targets nodes nid) old) (p.node nid);
      slot = λ ino k. unwrap_or (put_at l targets data_blocks (p.slot ino k)) (p.slot ino k);
      holder = p.holder;
      extent = λ ino. if list_any (is_covered (p.extent ino)) data_blocks then (0, 0) else p.extent ino;
    }

-- the addresses of a list at which a block or a node stands
abbrev pub occupied : ℕ → Placement → List ℕ → List ℕ
occupied nids p addresses =
    filter (λ address. list_any (λ place. p.slot place.0 place.1 == address) (all_places nids)
    || list_any (λ nid. option_map_or (λ a. a == address) (p.node nid) false) (numbers_below nids)) addresses

-- ---- all batches

-- where everything stands so far, the targets left, the blocks that lay in the range when their batch began, and the batches with such a block
pub record Moves : Type 0 where
  pub placed : Placement
  pub targets : List ℕ
  pub blocks : ℕ
  pub batches : ℕ

-- one more batch: nothing where no block stands in its part of the range
abbrev pub after_batch : Layout → ℕ → Moves → List ℕ → Moves
after_batch l nids m addresses =
    let blocks = length (occupied nids m.placed addresses) in
    if blocks == 0 then m
    else record {
      placed = moved_batch l nids addresses m.targets m.placed;
      targets = drop (batch_need nids m.placed addresses) m.targets;
      blocks = m.blocks + blocks;
      batches = m.batches + 1;
    }

unfoldable pub moves_after : Layout → ℕ → Moves → List (List ℕ) → Moves
moves_after l nids m [] = m
moves_after l nids m (addresses ∷ rest) = moves_after l nids (after_batch l nids m addresses) rest

-- all batches, from where everything stands at first
abbrev pub moves_of : Layout → ℕ → Placement → List ℕ → List (List ℕ) → Moves
moves_of l nids p targets batches = moves_after l nids (record { placed = p; targets = targets; blocks = 0; batches = 0 }) batches

-- the segments that all batches need, as everything stands at first
abbrev pub move_need : ℕ → Placement → List (List ℕ) → ℕ
move_need nids p batches = sum_by (batch_need nids p) batches

-- ---- the range

-- the addresses from one up to another that lie in a segment
abbrev pub part_in : Layout → ℕ → ℕ → ℕ → List ℕ
part_in l start end segment = filter (λ address. nat_le start address && nat_lt address end) (range_with_len (segment_start l segment) 512)

-- the parts cut into batches in order, each taking parts while at most 4096 blocks stand in them
unfoldable pub cut_batches : ℕ → Placement → List ℕ → List (List ℕ) → List (List ℕ)
cut_batches nids p batch [] = batch ∷ []
cut_batches nids p batch (part ∷ parts) =
    let more = batch ++ part in
    if nat_le (length (occupied nids p more)) 4096
    then cut_batches nids p more parts
    else batch ∷ cut_batches nids p part parts

-- the batches of a range from start up to end
abbrev pub batches_of : Layout → ℕ → Placement → ℕ → ℕ → List (List ℕ)
batches_of l nids p start end =
    cut_batches nids p [] (map (part_in l start end) (range_with_len (segment_of l start) (segment_of l (end - 1) + 1 - segment_of l start)))

-- the free segments without a block of the range, from the target's segment on upward, or downward
abbrev pub move_targets : Layout → List ℕ → ℕ → ℕ → ℕ → Bool → List ℕ
move_targets l free start end target down =
    let apart = filter (λ segment. nat_le end (segment_start l segment) || nat_le (segment_start l (segment + 1)) start) free in
    if down then reverse (filter (λ segment. nat_le segment (segment_of l target)) apart)
    else filter (λ segment. nat_le (segment_of l target) segment) apart

-- the address behind the last main block
abbrev pub main_end : Layout → ℕ
main_end l = l.main + 512 * l.segments

-- the range and the target that the words give
abbrev pub range_start : Layout → Option ℕ → ℕ
range_start l start = max l.main (unwrap_or start l.main)

abbrev pub range_end : Layout → ℕ → Option ℕ → ℕ
range_end l start blocks = let n = unwrap_or blocks 0 in min (main_end l) (start + (if n == 0 then 512 else n))

abbrev pub range_target : ℕ → ℕ → Option ℕ → Bool → ℕ
range_target start end target down = unwrap_or target (if down then start - 1 else end)

-- the number that lies outside the range of the job, if any
abbrev pub outside_range : Layout → Option ℕ → Option ℕ → Option ℕ → Bool → Option ℕ
outside_range l start blocks target down =
    let from = range_start l start in
    let end = range_end l from blocks in
    let to = range_target from end target down in
    if nat_le (main_end l) from then Some from
    else (if nat_lt to l.main || nat_lt (main_end l) to || (nat_le from to && nat_lt to end) then Some to else None)

-- ---- a job on an image

abbrev pub defrag_batches : Image → ℕ → ℕ → List (List ℕ)
defrag_batches image start end = batches_of (layout image) (nid_limit (layout image)) (placement image) start end

abbrev pub defrag_targets : Image → ℕ → ℕ → ℕ → Bool → List ℕ
defrag_targets image start end target down = move_targets (layout image) (free_segments image) start end target down

-- the segments that emptying the range needs, and those that it may use
unfoldable pub defrag_need : Image → ℕ → ℕ → ℕ
defrag_need image start end = move_need (nid_limit (layout image)) (placement image) (defrag_batches image start end)

unfoldable pub defrag_have : Image → ℕ → ℕ → ℕ → Bool → ℕ
defrag_have image start end target down = length (defrag_targets image start end target down)

-- where everything stands after the range was emptied
unfoldable pub defrag_moves : Image → ℕ → ℕ → ℕ → Bool → Moves
defrag_moves image start end target down =
    moves_of (layout image) (nid_limit (layout image)) (placement image) (defrag_targets image start end target down) (defrag_batches image start end)
