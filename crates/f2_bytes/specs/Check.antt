-- The cross-checks: what is compared on an image, rule by rule, and when an image is checked.
use Rattle.std.specs.Prelude.{ℕ, zero, suc, ◌+◌, ◌-◌, ◌*◌, ◌/◌, ◌^◌, max, Bool, true, false, not, ◌||◌, ◌&&◌, ◌==◌, nat_le, nat_lt, if◌then◌else◌, List, [], ◌∷◌, get_or, length, map, filter, find, flat_map, filter_map, fold, sum_by, count_by, bit_and, Option, Some, None, option_and_then, unwrap_or, is_none, is_some}
use Rattle.std.specs.Option.{option_map_or}
use Rattle.std.specs.List.{list_any, range_with_len}
use Rattle.std.specs.Str.{bytes_eq}
use Rattle.f2_bytes.specs.Bytes.{Block, Image, block_at, numbers_below, count_below}
use Rattle.f2_bytes.specs.Superblock.{copy_of, copy_row, passes, is_loadable, is_compared_row, layout, is_main, segment_of, place_of, segment_start}
use Rattle.f2_bytes.specs.Checkpoint.{log, is_log_segment, orphan_count, ckpt_flags, has_checkpoint, head, pack, valid_block_count, valid_node_count, valid_inode_count, free_segment_count}
use Rattle.f2_bytes.specs.Journal.{are_journals_bounded}
use Rattle.f2_bytes.specs.NodeAddressTable.{nat, nid_limit}
use Rattle.f2_bytes.specs.Node.{blocks, current_depth, dir_level, ext_fofs, ext_addr, ext_len, has_inline_dots, has_type, attribute_offset, most_blocks, footer_nid, footer_ino, node_offset, mode, type_of_mode, is_directory, is_regular, is_inline, links, size, xattr_nid, address_count, locate, block_limit, offset_limit}
use Rattle.f2_bytes.specs.SegmentTable.{sit, is_block_valid, has_valid_block}
use Rattle.f2_bytes.specs.Summary.{summary, entry_type, log_of}
use Rattle.f2_bytes.specs.Directory.{Item, block_slots}
use Rattle.f2_bytes.specs.Names.{name_hash, dot, dot_dot}
use Rattle.f2_bytes.specs.Buckets.{bucket_of, bucket_of_block, level_of_block}
use Rattle.f2_bytes.specs.RollForward.{chain_length}
use Rattle.f2_bytes.specs.Object.{is_name}
use Rattle.f2_bytes.specs.Tree.{read_node, nid_slot, tree_slot, tree_items, is_inode}

-- ---- comparisons

-- a comparison of a value that stands in the image with the one that the rest of the image wants
pub record Comparison : Type 0 where
  pub found : ℕ
  pub wanted : ℕ
  pub fails : Bool

-- one part of a rule: comparisons for pairs of numbers, the first below a limit, the second below one that it gives
pub record Part : Type 0 where
  pub number : ℕ
  pub first_limit : ℕ
  pub second_limit : ℕ → ℕ
  pub comparison : ℕ → ℕ → Option Comparison

-- a comparison that fails
pub record Defect : Type 0 where
  pub part : ℕ
  pub a : ℕ
  pub b : ℕ
  pub found : ℕ
  pub wanted : ℕ

-- the value that stands for none
abbrev pub none_value : ℕ
none_value = 2 ^ 32

-- the values have to be the same; at least the wanted one; pass a test; never stand
abbrev pub same : ℕ → ℕ → Option Comparison
same found wanted = Some (record { found = found; wanted = wanted; fails = not (found == wanted) })

abbrev pub at_least : ℕ → ℕ → Option Comparison
at_least found wanted = Some (record { found = found; wanted = wanted; fails = nat_lt found wanted })

abbrev pub fails_where : Bool → ℕ → ℕ → Option Comparison
fails_where fails found wanted = Some (record { found = found; wanted = wanted; fails = fails })

-- the comparison is made where the condition holds
abbrev pub where_true : Bool → Option Comparison → Option Comparison
where_true condition comparison = if condition then comparison else None

-- the comparison is made of the value, if there is one
abbrev pub of_value : {A : Type 0} → Option A → (A → Option Comparison) → Option Comparison
of_value o comparison = option_and_then comparison o

-- a part with one comparison for each number below a limit, and with just one
abbrev pub part_by_one : ℕ → ℕ → (ℕ → Option Comparison) → Part
part_by_one number limit comparison = record { number = number; first_limit = limit; second_limit = λ _. 1; comparison = λ a _. comparison a }

abbrev pub single : ℕ → Option Comparison → Part
single number comparison = record { number = number; first_limit = 1; second_limit = λ _. 1; comparison = λ _ _. comparison }

-- the defect of a comparison that fails
abbrev pub defect_of : ℕ → ℕ → ℕ → Option Comparison → Option Defect
defect_of number a b None = None
defect_of number a b (Some c) = if c.fails then Some (record { part = number; a = a; b = b; found = c.found; wanted = c.wanted }) else None

-- the defects of a part at a first number, and all of them in order
unfoldable pub defects_at : Part → ℕ → List Defect
defects_at p a = filter_map (λ b. defect_of p.number a b (p.comparison a b)) (numbers_below (p.second_limit a))

unfoldable pub part_defects : Part → List Defect
part_defects p = flat_map (defects_at p) (numbers_below p.first_limit)

-- a slot holds the address of a block: it is no hole and not reserved
abbrev pub is_address : ℕ → Bool
is_address slot = not (slot == 0) && not (slot == 2 ^ 32 - 1)

-- 1 where the test passes, else 0
abbrev pub digit : Bool → ℕ
digit b = if b then 1 else 0

-- the address of block k of a file, as an extent has to agree with it: 0 in an inline file, none past the last block
abbrev pub extent_found : Block → (ℕ → ℕ) → ℕ → ℕ
extent_found b slot k = if is_inline b then 0 else (if nat_lt k (block_limit (address_count b)) then slot k else none_value)

-- ---- directories

-- a way to read directories: the inode and the type of a number, the items of a directory, and the directory above
pub record Reading : Type 0 where
  pub inode : ℕ → Option Block
  pub kind : ℕ → ℕ
  pub items : ℕ → List Item
  pub parent : ℕ → Option ℕ

-- the type of the file with this inode, as entries that name it have to say; none where there is no inode
abbrev pub kind_of_inode : Option Block → ℕ
kind_of_inode o = option_map_or (λ b. unwrap_or (type_of_mode (mode b)) 0) o none_value

abbrev pub only_directory : Option Block → Option Block
only_directory o = option_and_then (λ b. if is_directory b then Some b else None) o

module _ (nids : ℕ) (r : Reading) where
  abbrev pub directory_in : ℕ → Option Block
  directory_in ino = only_directory (r.inode ino)

  -- a directory whose items stand in blocks
  abbrev pub block_directory_in : ℕ → Option Block
  block_directory_in ino = option_and_then (λ b. if is_inline b then None else Some b) (directory_in ino)

  -- the item at a place of a directory
  unfoldable pub item_at : ℕ → ℕ → Option Item
  item_at ino place = find (λ item. item.place == place) (if is_some (directory_in ino) then r.items ino else [])

  abbrev pub legal_item_at : ℕ → ℕ → Option Item
  legal_item_at ino place = option_and_then (λ item. if item.is_legal then Some item else None) (item_at ino place)

  abbrev pub legal_items : ℕ → List Item
  legal_items ino = filter (λ item. item.is_legal) (r.items ino)

  -- the first legal item of a directory with this name
  unfoldable pub first_named : ℕ → List ℕ → Option Item
  first_named ino name = find (λ item. bytes_eq item.name name) (legal_items ino)

  -- one more than the greatest value at the legal items, 0 where there is none
  abbrev pub one_past : (Item → ℕ) → ℕ → ℕ
  one_past value ino = fold (λ most item. max most (1 + value item)) 0 (legal_items ino)

  -- a comparison for each item of a directory
  abbrev pub item_part : ℕ → (ℕ → ℕ → Option Comparison) → Part
  item_part number comparison = record { number = number; first_limit = nids; second_limit = λ _. block_slots * most_blocks; comparison = comparison }

  -- what `.` or `..` names; where it is absent the dots bit says so
  abbrev pub dots_comparison : ℕ → Block → List ℕ → ℕ → Option Comparison
  dots_comparison ino b name wanted =
      option_map_or (λ item. same item.ino wanted) (first_named ino name) (fails_where (not (has_inline_dots b)) 0 wanted)

  -- the items of directories: legal, different, in their buckets, of the right type, with right `.` and `..`
  unfoldable pub item_parts : List Part
  item_parts =
      (item_part 1 (λ ino place. of_value (item_at ino place) (λ item. where_true (not item.is_legal) (fails_where true item.len 0)))
      ∷ item_part 2 (λ ino place. of_value (legal_item_at ino place) (λ item. same (option_map_or (λ first. first.place) (first_named ino item.name) 0) place))
      ∷ item_part 3 (λ ino place. of_value (legal_item_at ino place) (λ item. same item.hash (name_hash item.name)))
      ∷ item_part 4 (λ ino place. of_value (block_directory_in ino) (λ b. of_value (legal_item_at ino place) (λ item.
      same (bucket_of_block (dir_level b) (place / block_slots))
      (bucket_of (level_of_block (dir_level b) (place / block_slots)) (dir_level b) (name_hash item.name)))))
      ∷ item_part 5 (λ ino place. of_value (legal_item_at ino place) (λ item. same item.kind (r.kind item.ino)))
      ∷ part_by_one 6 nids (λ ino. of_value (block_directory_in ino) (λ b. at_least (current_depth b) (one_past (λ item. level_of_block (dir_level b) (item.place / block_slots)) ino)))
      ∷ part_by_one 7 nids (λ ino. of_value (directory_in ino) (λ b. dots_comparison ino b dot ino))
      ∷ part_by_one 8 nids (λ ino. of_value (directory_in ino) (λ b. dots_comparison ino b dot_dot (if ino == 3 then 3 else unwrap_or (r.parent ino) none_value)))
      ∷ part_by_one 9 nids (λ ino. of_value (block_directory_in ino) (λ b. at_least (size b) (4096 * one_past (λ item. item.place / block_slots) ino)))
      ∷ [])

module _ (image : Image) where
  -- ---- what the comparisons speak of

  abbrev pub nids : ℕ
  nids = nid_limit (layout image)

  -- the inode of this number, where the table has it in main
  abbrev pub inode_of : ℕ → Option Block
  inode_of nid = if is_inode image nid then read_node image nid else None

  abbrev pub directory_of : ℕ → Option Block
  directory_of nid = only_directory (inode_of nid)

  -- the offset of a node, where the table has it in main for this inode
  unfoldable pub offset_of_node : ℕ → ℕ → ℕ
  offset_of_node nid ino =
      if option_map_or (λ e. e.ino == ino) (nat image nid) false
      then option_map_or node_offset (read_node image nid) none_value else none_value

  -- how many slots and how many nodes have this address
  unfoldable pub slots_with : ℕ → ℕ
  slots_with address = sum_by (λ ino. count_below most_blocks (λ k. tree_slot image ino k == address)) (filter (is_inode image) (numbers_below nids))

  unfoldable pub nodes_with : ℕ → ℕ
  nodes_with address = count_below nids (λ nid. option_map_or (λ e. e.address == address) (nat image nid) false)

  abbrev pub is_data : ℕ → Bool
  is_data address = nat_lt 0 (slots_with address)

  abbrev pub is_node : ℕ → Bool
  is_node address = nat_lt 0 (nodes_with address)

  -- the first nid at this address, and the first file and block with it
  unfoldable pub nid_with : ℕ → Option ℕ
  nid_with address = find (λ nid. option_map_or (λ e. e.address == address) (nat image nid) false) (numbers_below nids)

  unfoldable pub slot_with : ℕ → Option (ℕ × ℕ)
  slot_with address =
      find (λ place. tree_slot image place.0 place.1 == address)
      (flat_map (λ ino. map (λ k. (ino, k)) (numbers_below most_blocks)) (filter (is_inode image) (numbers_below nids)))

  -- node offset and place where block k of a file has its address, and the nid of that node
  abbrev pub spot_of : ℕ × ℕ → ℕ × ℕ
  spot_of place = unwrap_or (option_and_then (λ b. locate place.1 (address_count b)) (read_node image place.0)) (0, 0)

  abbrev pub nid_of_spot : ℕ × ℕ → ℕ
  nid_of_spot place = if (spot_of place).0 == 0 then place.0 else nid_slot image place.0 (spot_of place).0

  -- the node that the block at an address belongs to: itself, or the one with its slot
  abbrev pub nid_wanted : ℕ → ℕ
  nid_wanted address = option_map_or nid_of_spot (slot_with address) (unwrap_or (nid_with address) none_value)

  -- how often a nid stands in the nid slots of an inode and as its attribute node
  abbrev pub times_named_in : ℕ → ℕ → ℕ
  times_named_in nid ino =
      count_below offset_limit (λ offset. nid_slot image ino offset == nid) + digit (option_map_or xattr_nid (read_node image ino) 0 == nid)

  -- the same in all inodes
  unfoldable pub times_named : ℕ → ℕ
  times_named nid = sum_by (times_named_in nid) (filter (is_inode image) (numbers_below nids))

  -- the slots of a file that aren't holes
  abbrev pub used_slots : ℕ → ℕ
  used_slots ino = count_below most_blocks (λ k. not (tree_slot image ino k == 0))

  -- the legal names of a directory but `.` and `..`
  abbrev pub names_in : ℕ → List Item
  names_in ino = if is_some (directory_of ino) then filter is_name (tree_items image ino) else []

  -- how many names a directory has for a file, and all directories together
  abbrev pub names_for : ℕ → ℕ → ℕ
  names_for target ino = count_by (λ item. item.ino == target) (names_in ino)

  unfoldable pub name_count : ℕ → ℕ
  name_count target = sum_by (names_for target) (numbers_below nids)

  -- the least directory that names a file
  unfoldable pub least_parent : ℕ → Option ℕ
  least_parent target = find (λ ino. nat_lt 0 (names_for target ino)) (numbers_below nids)

  -- the n-th step up by least parents
  unfoldable pub least_ancestor : ℕ → ℕ → Option ℕ
  least_ancestor zero ino = Some ino
  least_ancestor (suc n) ino = option_and_then least_parent (least_ancestor n ino)

  -- whether such steps lead back to a directory
  unfoldable pub is_least_ancestor : ℕ → Bool
  is_least_ancestor ino = list_any (λ n. option_map_or (λ up. up == ino) (least_ancestor (n + 1) ino) false) (numbers_below nids)

  -- ---- the rules

  -- both superblock copies pass and agree
  unfoldable pub superblock_parts : List Part
  superblock_parts =
      (part_by_one 1 2 (λ copy. same (digit (passes (block_at image copy))) 1)
      ∷ part_by_one 2 33 (λ row. where_true (is_compared_row row) (same (copy_row (copy_of (block_at image 1)) row) (copy_row (copy_of (block_at image 0)) row)))
      ∷ [])

  -- the image was left in order: no orphan, no roll-forward, no error flag
  unfoldable pub checkpoint_parts : List Part
  checkpoint_parts =
      (single 1 (same (orphan_count image) 0)
      ∷ single 2 (same (chain_length image) 0)
      ∷ single 3 (same (bit_and (ckpt_flags (head image)) 0x1018) 0)
      ∷ [])

  -- the root's inode has to be a directory; another inode has to have a type
  abbrev pub mode_comparison : ℕ → Option Comparison
  mode_comparison nid =
      if nid == 3 then fails_where (is_none (directory_of 3)) (option_map_or mode (inode_of 3) 0) 0x4000
      else of_value (inode_of nid) (λ b. fails_where (not (has_type b)) (mode b) 0)

  -- the table and the nodes agree, and each node but the inodes hangs in one place
  unfoldable pub node_parts : List Part
  node_parts =
      (part_by_one 1 nids (λ nid. of_value (nat image nid) (λ e. fails_where (not (is_main (layout image) e.address)) e.address (layout image).main))
      ∷ part_by_one 2 nids (λ nid. of_value (read_node image nid) (λ b. same (footer_nid b) nid))
      ∷ part_by_one 3 nids (λ nid. of_value (read_node image nid) (λ b. of_value (nat image nid) (λ e. same (footer_ino b) e.ino)))
      ∷ part_by_one 4 nids (λ nid. of_value (inode_of nid) (λ b. same (node_offset b) 0))
      ∷ part_by_one 5 nids mode_comparison
      ∷ record {
        number = 6;
        first_limit = nids;
        second_limit = λ _. offset_limit;
        comparison = λ ino offset. where_true (is_inode image ino && not (nid_slot image ino offset == 0))
            (same (offset_of_node (nid_slot image ino offset) ino) offset);
      }
      ∷ part_by_one 7 nids (λ nid. where_true (is_some (nat image nid) && not (is_inode image nid)) (same (times_named nid) 1))
      ∷ [])

  -- each slot names a main block that no other slot and no node has
  abbrev pub slot_part : ℕ → (ℕ → Option Comparison) → Part
  slot_part number comparison = record {
    number = number;
    first_limit = nids;
    second_limit = λ _. most_blocks;
    comparison = λ ino k. where_true (is_inode image ino && is_address (tree_slot image ino k)) (comparison (tree_slot image ino k));
  }

  unfoldable pub address_parts : List Part
  address_parts =
      (slot_part 1 (λ address. fails_where (not (is_main (layout image) address)) address (layout image).main)
      ∷ slot_part 2 (λ address. same (slots_with address + nodes_with address) 1)
      ∷ [])

  -- a comparison for each block of a main segment, by its address
  abbrev pub block_part : ℕ → (ℕ → Option Comparison) → Part
  block_part number comparison = record {
    number = number;
    first_limit = (layout image).segments;
    second_limit = λ _. 512;
    comparison = λ segment k. comparison (segment_start (layout image) segment + k);
  }

  abbrev pub is_marked : ℕ → Bool
  is_marked address = is_block_valid image (segment_of (layout image) address) (place_of (layout image) address)

  abbrev pub kind_at : ℕ → ℕ
  kind_at address = (sit image (segment_of (layout image) address)).kind

  -- a block's segment is of the type of the block
  abbrev pub type_comparison : ℕ → Option Comparison
  type_comparison address =
      if is_data address then fails_where (nat_lt 2 (kind_at address)) (kind_at address) 0
      else (if is_node address then fails_where (nat_lt (kind_at address) 3 || nat_lt 5 (kind_at address)) (kind_at address) 3
      else None)

  -- the segment table marks just the blocks of slots and nodes
  unfoldable pub validity_parts : List Part
  validity_parts =
      (block_part 1 (λ address. same (digit (is_marked address)) (digit (is_data address || is_node address)))
      ∷ part_by_one 2 (layout image).segments (λ segment. same (sit image segment).count (count_below 512 (is_block_valid image segment)))
      ∷ block_part 3 (λ address. where_true (is_marked address) (type_comparison address))
      ∷ [])

  -- the summaries lead from the blocks to their nodes
  unfoldable pub summary_parts : List Part
  summary_parts =
      (block_part 1 (λ address. where_true (is_marked address) (same (summary image address).nid (nid_wanted address)))
      ∷ block_part 2 (λ address. where_true (is_marked address) (of_value (slot_with address) (λ place. same (summary image address).place (spot_of place).1)))
      ∷ part_by_one 3 (layout image).segments (λ segment.
      where_true (has_valid_block image segment && not (is_log_segment (head image) segment))
      (same (entry_type (block_at image ((layout image).ssa + segment))) (digit (nat_lt 2 (sit image segment).kind))))
      ∷ [])

  -- the checkpoint's counts
  unfoldable pub count_parts : List Part
  count_parts =
      (single 1 (same (valid_block_count (head image)) (count_below nids (λ nid. is_some (nat image nid)) + sum_by used_slots (filter (is_inode image) (numbers_below nids))))
      ∷ single 2 (same (valid_node_count (head image)) (count_below nids (λ nid. is_some (nat image nid))))
      ∷ single 3 (same (valid_inode_count (head image)) (count_below nids (is_inode image)))
      ∷ single 4 (same (free_segment_count (head image)) (count_below (layout image).segments (λ segment. not (has_valid_block image segment) && not (is_log_segment (head image) segment))))
      ∷ [])

  -- the logs have segments of their own, of their type, with room where they write
  unfoldable pub log_parts : List Part
  log_parts =
      (part_by_one 1 6 (λ t. same (unwrap_or (log_of (head image) (log (head image) t).segment) 0) t)
      ∷ part_by_one 2 6 (λ t. let kind = (sit image (log (head image) t).segment).kind in
      where_true (has_valid_block image (log (head image) t).segment)
      (fails_where (not (digit (nat_lt kind 3) == digit (nat_lt t 3))) kind t))
      ∷ record {
        number = 3;
        first_limit = 6;
        second_limit = λ _. 512;
        comparison = λ t k. where_true (k == (log (head image) t).offset) (same (digit (is_block_valid image (log (head image) t).segment k)) 0);
      }
      ∷ record {
        number = 4;
        first_limit = 6;
        second_limit = λ _. 512;
        comparison = λ t k. where_true (((log (head image) t).allocation == 0) && nat_lt (log (head image) t).offset k)
            (same (digit (is_block_valid image (log (head image) t).segment k)) 0);
      }
      ∷ [])

  -- the links that an inode should have
  abbrev pub links_wanted : ℕ → Block → ℕ
  links_wanted ino b =
      if is_directory b then 2 + count_by (λ item. is_some (directory_of item.ino)) (names_in ino) else name_count ino

  -- the counts in an inode, and its extent
  unfoldable pub inode_parts : List Part
  inode_parts =
      (part_by_one 1 nids (λ ino. of_value (inode_of ino) (λ b. same (blocks b) (count_below nids (λ nid. option_map_or (λ e. e.ino == ino) (nat image nid) false) + used_slots ino)))
      ∷ part_by_one 2 nids (λ ino. of_value (inode_of ino) (λ b. same (links b) (links_wanted ino b)))
      ∷ record {
        number = 3;
        first_limit = nids;
        second_limit = λ ino. option_map_or (λ b. ext_fofs b + ext_len b) (inode_of ino) 0;
        comparison = λ ino k. of_value (inode_of ino) (λ b. where_true (is_regular b && nat_le (ext_fofs b) k) (same (extent_found b (tree_slot image ino) k) (ext_addr b + k - ext_fofs b)));
      }
      ∷ [])

  -- the directories, as the tree reads them
  unfoldable pub tree_reading : Reading
  tree_reading = record { inode = inode_of; kind = λ ino. kind_of_inode (inode_of ino); items = tree_items image; parent = least_parent }

  abbrev pub directory_parts : List Part
  directory_parts = item_parts nids tree_reading

  -- each file has a name, a directory just one and no loop, the root none
  unfoldable pub link_parts : List Part
  link_parts =
      (part_by_one 1 nids (λ ino. of_value (inode_of ino) (λ b. where_true (not (ino == 3)) (same (if is_directory b then name_count ino else digit (nat_lt 0 (name_count ino))) 1)))
      ∷ part_by_one 2 nids (λ ino. of_value (directory_of ino) (λ b. same (digit (is_least_ancestor ino)) 0))
      ∷ part_by_one 3 4 (λ ino. where_true (ino == 3) (same (name_count 3) 0))
      ∷ [])

  -- the attribute nodes
  unfoldable pub attribute_parts : List Part
  attribute_parts =
      (part_by_one 1 nids (λ ino. of_value (inode_of ino) (λ b. where_true (not (xattr_nid b == 0)) (same (offset_of_node (xattr_nid b) ino) attribute_offset)))
      ∷ [])

  -- ---- the verdict

  -- the parts of a rule, numbered from 1
  abbrev pub rules : List (List Part)
  rules =
      (superblock_parts ∷ checkpoint_parts ∷ node_parts ∷ address_parts ∷ validity_parts ∷ summary_parts
      ∷ count_parts ∷ log_parts ∷ inode_parts ∷ directory_parts ∷ link_parts ∷ attribute_parts ∷ [])

  -- the defects by a rule, in order
  unfoldable pub defects : ℕ → List Defect
  defects rule = flat_map part_defects (get_or rules (rule - 1) [])

  abbrev pub is_rule_met : ℕ → Bool
  is_rule_met rule = length (defects rule) == 0

  -- the least rule that fails, among those from the first on
  abbrev pub failing_rule : ℕ → Option ℕ
  failing_rule first = find (λ rule. not (is_rule_met rule)) (range_with_len first (13 - first))

  -- the image can be read, but for the limit on versions
  abbrev pub is_readable : Bool
  is_readable = is_loadable image && has_checkpoint image && are_journals_bounded (pack image)

  -- the image is checked; the same but for the agreement of the superblock copies
  abbrev pub is_checked : Bool
  is_checked = is_readable && is_none (failing_rule 1)

  abbrev pub is_checked_body : Bool
  is_checked_body = is_readable && is_none (failing_rule 2)
