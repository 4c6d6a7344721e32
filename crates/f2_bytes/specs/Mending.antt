-- What mending writes: the nodes whose bytes change, what stays, the segments that it needs, and when it refuses.
use Rattle.std.specs.Prelude.{ℕ, ◌+◌, ◌-◌, ◌^◌, Bool, true, false, not, ◌||◌, ◌&&◌, ◌==◌, nat_lt, if◌then◌else◌, List, [], ◌∷◌, ◌++◌, length, map, filter, flat_map, fold, sum_by, count_by, Option, option_map, option_and_then, is_some}
use Rattle.std.specs.Option.{option_map_or}
use Rattle.std.specs.List.{list_any, list_all}
use Rattle.f2_bytes.specs.Bytes.{Block, Image, numbers_below, count_below, quotient_up}
use Rattle.f2_bytes.specs.Superblock.{layout, segment_of, segment_start}
use Rattle.f2_bytes.specs.Checkpoint.{head, log, log_numbers}
use Rattle.f2_bytes.specs.Node.{is_regular, has_slots, links, blocks, xattr_nid, ext_fofs, ext_len, ext_addr, address_count, locate, parent_of, child_nid, offset_limit, attribute_offset, most_blocks}
use Rattle.f2_bytes.specs.RollForward.{found_place}
use Rattle.f2_bytes.specs.Check.{is_address, extent_found}
use Rattle.f2_bytes.specs.Support.{free_segments}
use Rattle.f2_bytes.specs.SalvagedFiles.{root, passes_test, files, is_directory_file, file_node, file_slot, owner, is_owned}
use Rattle.f2_bytes.specs.Claims.{is_on}
use Rattle.f2_bytes.specs.LostFiles.{is_made}
use Rattle.f2_bytes.specs.Salvage.{names}
use Rattle.f2_bytes.specs.RebuiltDirectories.{names_of, is_rebuilt, rebuilt_directories, built_blocks, full_directory}
use Rattle.f2_bytes.specs.MendedNodes.{inode_block, holds_built, old_nid, node_places, mended_nid, nid_need, nid_have}

module _ (image : Image) where
  -- ---- what changes in a node

  -- a slot of a file that names a block that is not its own
  abbrev pub is_wrong_slot : ℕ → ℕ → Bool
  is_wrong_slot ino k = is_address (file_slot image ino k) && not (is_owned image ino k)

  -- a node has such a slot
  abbrev pub has_wrong_slot : ℕ → ℕ → Bool
  has_wrong_slot ino offset =
      list_any (λ k. is_wrong_slot ino k
      && passes_test (λ spot. spot.0 == offset) (locate k (address_count (inode_block image ino))))
      (numbers_below most_blocks)

  -- the slots that become holes, by file and block
  unfoldable pub new_holes : List (ℕ × ℕ)
  new_holes =
      flat_map (λ ino. map (λ k. (ino, k)) (filter (is_wrong_slot ino) (numbers_below most_blocks)))
      (filter (λ ino. not (is_rebuilt image ino)) (files image))

  -- a nid slot of a node names another node than the one below it in the end
  abbrev pub is_wrong_nid : ℕ → ℕ → Block → ℕ → ℕ × ℕ → Bool
  is_wrong_nid ino offset b below spot =
      (spot.0 == offset) && not (child_nid offset b spot.1 == mended_nid image ino below)

  abbrev pub has_wrong_nid : ℕ → ℕ → Block → Bool
  has_wrong_nid ino offset b =
      list_any (λ below. passes_test (is_wrong_nid ino offset b below) (parent_of below)) (numbers_below offset_limit)

  -- a directory of the salvage
  abbrev pub is_salvaged_directory : ℕ → Bool
  is_salvaged_directory ino = is_directory_file image ino || is_made image ino

  -- the counts of a file in the end: its links, its slots that are no holes, and the blocks that it takes
  unfoldable pub mended_links : ℕ → ℕ
  mended_links ino =
      if is_salvaged_directory ino
      then 2 + count_by (λ c. is_salvaged_directory c.target) (names_of image ino)
      else count_by (is_on ino) (names image)

  abbrev pub mended_slots : ℕ → ℕ
  mended_slots ino =
      if is_rebuilt image ino then length (built_blocks image ino)
      else count_below most_blocks (λ k. is_owned image ino k || (file_slot image ino k == 2 ^ 32 - 1))

  unfoldable pub mended_blocks : ℕ → ℕ
  mended_blocks ino = count_by (λ place. place.0 == ino) (node_places image) + mended_slots ino

  -- the address of block k of a file in the end
  abbrev pub mended_address : ℕ → ℕ → ℕ
  mended_address ino k = if is_wrong_slot ino k then 0 else file_slot image ino k

  -- the extent of a regular file disagrees with its addresses
  abbrev pub has_wrong_extent : ℕ → Block → Bool
  has_wrong_extent ino b =
      is_regular b
      && list_any (λ j. not (extent_found b (mended_address ino) (ext_fofs b + j) == ext_addr b + j))
      (numbers_below (ext_len b))

  -- a field of an inode changes
  abbrev pub has_wrong_field : ℕ → Block → Bool
  has_wrong_field ino b =
      not (links b == mended_links ino)
      || not (blocks b == mended_blocks ino)
      || not (xattr_nid b == mended_nid image ino attribute_offset)
      || has_wrong_extent ino b

  -- a node of a rebuilt directory that holds addresses, or whose directory fields change
  abbrev pub is_rebuilt_node : ℕ → ℕ → Bool
  is_rebuilt_node ino offset = is_rebuilt image ino && ((offset == 0) || holds_built image ino offset)

  -- a node whose bytes change
  unfoldable pub is_changed : ℕ → ℕ → Block → Bool
  is_changed ino offset b =
      if offset == attribute_offset then false
      else is_rebuilt_node ino offset
      || (not (is_rebuilt image ino) && has_wrong_slot ino offset)
      || ((is_rebuilt image ino || has_slots (inode_block image ino)) && has_wrong_nid ino offset b)
      || ((offset == 0) && has_wrong_field ino b)

  -- ---- what stays and what is written

  -- a block of data that stays: owned by a file that isn't rebuilt
  unfoldable pub is_staying_data : ℕ → Bool
  is_staying_data address =
      passes_test (λ place. is_owned image place.0 place.1 && not (is_rebuilt image place.0)) (owner image address)

  -- a segment has such a block
  abbrev pub has_staying_data : ℕ → Bool
  has_staying_data segment =
      list_any (λ k. is_staying_data (segment_start (layout image) segment + k)) (numbers_below 512)

  -- the address of a node that stands already
  abbrev pub old_address : ℕ → ℕ → Option ℕ
  old_address ino offset =
      option_map (λ at. at.address) (option_and_then (found_place image) (old_nid image ino offset))

  -- a node that is written: new, changed, or in a segment with data that stays
  unfoldable pub is_written : ℕ → ℕ → Bool
  is_written ino offset =
      option_map_or (λ address. has_staying_data (segment_of (layout image) address)) (old_address ino offset) true
      || passes_test (is_changed ino offset) (file_node image ino offset)

  unfoldable pub written_nodes : List (ℕ × ℕ)
  written_nodes = filter (λ place. is_written place.0 place.1) (node_places image)

  -- how many blocks of data are written
  unfoldable pub written_data_count : ℕ
  written_data_count = sum_by (λ ino. length (built_blocks image ino)) (rebuilt_directories image)

  -- a node that stays where it is
  unfoldable pub is_staying_node : ℕ → Bool
  is_staying_node address =
      list_any (λ place. not (is_written place.0 place.1)
      && passes_test (λ a. a == address) (old_address place.0 place.1))
      (node_places image)

  -- either of them
  abbrev pub is_staying : ℕ → Bool
  is_staying address = is_staying_data address || is_staying_node address

  -- ---- logs, and the room

  -- a log may stay: no kept log before has its segment, no block of the other kind stays there, and there is room
  abbrev pub is_log_staying : List ℕ → ℕ → Bool
  is_log_staying kept t =
      let at = log (head image) t in
      let start = segment_start (layout image) at.segment in
      let other = λ (address : ℕ). if nat_lt t 3 then is_staying_node address else is_staying_data address in
      let free = λ (k : ℕ). not (is_staying (start + k)) in
      not (list_any (λ u. (log (head image) u).segment == at.segment) kept)
      && list_all (λ k. not (other (start + k))) (numbers_below 512)
      && free at.offset
      && (not (at.allocation == 0) || list_all (λ k. nat_lt k at.offset || free k) (numbers_below 512))

  -- the logs that stay
  unfoldable pub staying_logs : List ℕ
  staying_logs = fold (λ kept t. if is_log_staying kept t then kept ++ t ∷ [] else kept) [] log_numbers

  -- the segments that mending needs, and those that it has
  unfoldable pub mend_need : ℕ
  mend_need = quotient_up written_data_count 512 + quotient_up (length written_nodes) 512 + (6 - length staying_logs)

  unfoldable pub mend_have : ℕ
  mend_have = length (free_segments image)

  -- ---- refusals, in this order

  -- the root directory is not left, so that there is no salvage
  abbrev pub lacks_root : Bool
  lacks_root = not (is_directory_file image root)

  -- a rebuilt directory has a name that finds no place: `full_directory` says which
  abbrev pub lacks_places : Bool
  lacks_places = is_some (full_directory image)

  -- fewer nids are free than the new nodes take
  abbrev pub lacks_nids : Bool
  lacks_nids = nat_lt (nid_have image) (nid_need image)

  -- fewer segments are free than mending needs
  abbrev pub lacks_segments : Bool
  lacks_segments = nat_lt mend_have mend_need
