-- The nodes of a mended image: those that files keep, those of rebuilt directories, and those missing above them.
use Rattle.std.specs.Prelude.{ℕ, zero, suc, ◌-◌, Bool, not, ◌||◌, ◌&&◌, ◌==◌, nat_lt, if◌then◌else◌, List, [], ◌∷◌, ◌++◌, length, map, filter, flat_map, position, slice_index, Option, None, unwrap_or, is_some, is_none}
use Rattle.std.specs.Option.{option_map_or}
use Rattle.std.specs.List.{list_any, range_with_len}
use Rattle.f2_bytes.specs.Bytes.{Block, Image, numbers_below}
use Rattle.f2_bytes.specs.Node.{has_slots, has_inline_xattr, locate, parent_of, offset_limit, attribute_offset}
use Rattle.f2_bytes.specs.RollForward.{found_place, node_block}
use Rattle.f2_bytes.specs.Check.{nids}
use Rattle.f2_bytes.specs.SalvagedFiles.{passes_test, nid_at, file_node}
use Rattle.f2_bytes.specs.LostFiles.{is_made}
use Rattle.f2_bytes.specs.RebuiltDirectories.{is_rebuilt, is_salvaged_file, salvaged_files, built_blocks}

-- the node at the first offset stands at most n steps above the one at the second, or is that one
unfoldable pub is_above : ℕ → ℕ → ℕ → Bool
is_above zero offset below = offset == below
is_above (suc n) offset below = (offset == below) || passes_test (λ spot. is_above n offset spot.0) (parent_of below)

-- two nodes are the same: the file of each with its offset there
abbrev pub same_place : ℕ × ℕ → ℕ × ℕ → Bool
same_place p q = (p.0 == q.0) && (p.1 == q.1)

module _ (image : Image) where
  -- ---- which nodes there are

  -- the inode as it stands; a directory that is made has none
  abbrev pub inode_block : ℕ → Block
  inode_block ino = unwrap_or (node_block image ino) []

  -- how many address words of a rebuilt directory's inode name blocks: its names are no longer inline
  abbrev pub built_address_count : ℕ → ℕ
  built_address_count ino = if has_inline_xattr (inode_block ino) then 873 else 923

  -- a block of a rebuilt directory has its address in the node at this offset
  abbrev pub holds_built : ℕ → ℕ → Bool
  holds_built ino offset =
      list_any (λ k. passes_test (λ spot. spot.0 == offset) (locate k (built_address_count ino)))
      (built_blocks image ino)

  -- the node at an offset is needed: it stands, or it holds a block of a rebuilt directory
  abbrev pub is_needed : ℕ → ℕ → Bool
  is_needed ino offset =
      if is_rebuilt image ino then (offset == 0) || holds_built ino offset
      else (if has_slots (inode_block ino) then is_some (file_node image ino offset) else offset == 0)

  -- a file has a node at an offset in the end: one that is needed, or above one that is, or its attribute node
  unfoldable pub has_mended_node : ℕ → ℕ → Bool
  has_mended_node ino offset =
      is_salvaged_file image ino
      && ((nat_lt offset offset_limit
      && list_any (λ below. is_needed ino below && is_above 3 offset below) (numbers_below offset_limit))
      || ((offset == attribute_offset) && not (is_made image ino) && is_some (file_node image ino attribute_offset)))

  -- the nid of a node that stands already
  abbrev pub old_nid : ℕ → ℕ → Option ℕ
  old_nid ino offset =
      if is_made image ino then None
      else (if is_some (file_node image ino offset) then nid_at image ino offset else None)

  -- the offsets that nodes may have, the attribute node's last
  abbrev pub node_offsets : List ℕ
  node_offsets = numbers_below offset_limit ++ attribute_offset ∷ []

  -- all nodes in the end, by file and offset
  unfoldable pub node_places : List (ℕ × ℕ)
  node_places =
      flat_map (λ ino. map (λ offset. (ino, offset)) (filter (has_mended_node ino) node_offsets))
      (salvaged_files image)

  -- ---- new nodes

  -- the nodes that are new: the inode of a directory that is made, then the others in order
  unfoldable pub new_nodes : List (ℕ × ℕ)
  new_nodes =
      let is_made_inode = λ (place : ℕ × ℕ). is_made image place.0 && (place.1 == 0) in
      let is_new = λ (place : ℕ × ℕ). is_none (old_nid place.0 place.1) in
      filter is_made_inode node_places ++ filter (λ place. is_new place && not (is_made_inode place)) node_places

  -- the nids that no node has, from 4 on
  unfoldable pub free_nids : List ℕ
  free_nids = filter (λ nid. is_none (found_place image nid)) (range_with_len 4 (nids image - 4))

  -- the nid of a node in the end: the one that it has, else a free one, taken in order; 0 where there is no node
  unfoldable pub mended_nid : ℕ → ℕ → ℕ
  mended_nid ino offset =
      if has_mended_node ino offset
      then unwrap_or (old_nid ino offset)
      (option_map_or (slice_index free_nids) (position (same_place (ino, offset)) new_nodes) 0)
      else 0

  -- the nids that mending needs, and those that it has
  unfoldable pub nid_need : ℕ
  nid_need = length new_nodes

  unfoldable pub nid_have : ℕ
  nid_have = length free_nids
