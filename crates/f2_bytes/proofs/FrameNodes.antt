-- Another image with the support of this one has the same nodes, nid slots and slots.
use Rattle.std.proofs.Common.{◌≡◌, ℕ, zero, suc, ◌+◌, true, false, ◌==◌, cond, filter, Option, Some, None, sum_by, refl, ap, ◌∙◌}
use Rattle.std.specs.Prelude.{is_some, option_and_then, find, flat_map, map, not, unwrap_or, if◌then◌else◌}
use Rattle.std.specs.Option.{option_map_or}
use Rattle.f2_bytes.specs.Bytes.{Block, Image, block_at, numbers_below, count_below}
use Rattle.f2_bytes.specs.Superblock.{super_copy, layout, is_main}
use Rattle.f2_bytes.specs.Checkpoint.{has_checkpoint}
use Rattle.f2_bytes.specs.Journal.{NatEntry}
use Rattle.f2_bytes.specs.NodeAddressTable.{nid_limit, nat}
use Rattle.f2_bytes.specs.Node.{parent_of, slot_of, has_slots, xattr_nid, node_offset, locate, address_count, offset_limit, most_blocks}
use Rattle.f2_bytes.specs.Tree.{main_block, read_node, nid_in, node_within, nid_slot, tree_slot, is_inode}
use Rattle.f2_bytes.specs.Check.{inode_of, offset_of_node, slots_with, nodes_with, nid_with, slot_with, spot_of, nid_of_spot, nid_wanted, times_named, used_slots, none_value, digit}
use Rattle.f2_bytes.specs.Support.{is_support}
use Rattle.f2_bytes.specs.Laws.{AgreesOnSupport}
use Rattle.f2_bytes.proofs.InSupport.{node_in}
use Rattle.f2_bytes.proofs.PackReads.{cond_same}
use Rattle.f2_bytes.proofs.FrameTables.{layout-frame, nat-frame}

module _ (image other : Image) (s : AgreesOnSupport image other) (copied : is_some (super_copy image) ≡ true) (checkpoint : has_checkpoint image ≡ true) where
  -- the block at an address, where the support has it
  pub main_block-frame : (address : ℕ) → (is_main (layout image) address ≡ true → is_support image address ≡ true) → main_block other address ≡ main_block image address
  main_block-frame address in_support =
      let same_layout : main_block other address ≡ cond (is_main (layout image) address) (Some (block_at other address)) None
      = λ i. cond (is_main (layout-frame image other s copied checkpoint i) address) (Some (block_at other address)) None in
      same_layout ∙ cond_same (is_main (layout image) address) (λ main. ap Some (s.blocks address (in_support main))) (λ out. refl)

  pub nat_same : (nid : ℕ) → nat other nid ≡ nat image nid
  nat_same nid = nat-frame image other s copied checkpoint nid

  pub layout_same : layout other ≡ layout image
  layout_same = layout-frame image other s copied checkpoint

  pub read_node-frame : (nid : ℕ) → read_node other nid ≡ read_node image nid
  unfolding read_node
  read_node-frame nid = ap (λ o. option_and_then (λ e. main_block other e.address) o) (nat_same nid) ∙ go (nat image nid) refl
    where
      go : (o : Option NatEntry) → nat image nid ≡ o → option_and_then (λ e. main_block other e.address) o ≡ option_and_then (λ e. main_block image e.address) o
      go None is = refl
      go (Some e) is = main_block-frame e.address (node_in image nid e is)

  -- one step down
  abbrev step : (ℕ → Option Block) → (ℕ → Option Block) → ℕ → ℕ → Option Block
  step read below ino offset =
      if offset == 0 then read ino
      else option_and_then (λ spot. option_and_then (λ above. read (nid_in spot above)) (below spot.0)) (parent_of offset)

  pub node_within-frame : (n ino offset : ℕ) → node_within n other ino offset ≡ node_within n image ino offset
  unfolding node_within
  node_within-frame zero ino offset = λ i. if offset == 0 then read_node-frame ino i else None
  node_within-frame (suc n) ino offset = λ i. step (λ nid. read_node-frame nid i) (λ o. node_within-frame n ino o i) ino offset

  pub nid_slot-frame : (ino offset : ℕ) → nid_slot other ino offset ≡ nid_slot image ino offset
  unfolding nid_slot
  nid_slot-frame ino offset = λ i.
      if option_map_or has_slots (read_node-frame ino i) false
      then option_map_or (λ spot. option_map_or (nid_in spot) (node_within-frame 2 ino spot.0 i) 0) (parent_of offset) 0
      else 0

  pub tree_slot-frame : (ino k : ℕ) → tree_slot other ino k ≡ tree_slot image ino k
  unfolding tree_slot
  tree_slot-frame ino k = λ i. slot_of (λ o. node_within-frame 3 ino o i) k

  pub is_inode-frame : (nid : ℕ) → is_inode other nid ≡ is_inode image nid
  unfolding is_inode
  is_inode-frame nid = λ i. option_map_or (λ e. e.ino == nid) (nat_same nid i) false

  -- ---- what the cross-checks make of them

  pub inode_of-frame : (nid : ℕ) → inode_of other nid ≡ inode_of image nid
  inode_of-frame nid = λ i. if is_inode-frame nid i then read_node-frame nid i else None

  pub offset_of_node-frame : (nid ino : ℕ) → offset_of_node other nid ino ≡ offset_of_node image nid ino
  unfolding offset_of_node
  offset_of_node-frame nid ino = λ i.
      if option_map_or (λ e. e.ino == ino) (nat_same nid i) false
      then option_map_or node_offset (read_node-frame nid i) none_value else none_value

  pub slots_with-frame : (address : ℕ) → slots_with other address ≡ slots_with image address
  unfolding slots_with
  slots_with-frame address = λ i. sum_by (λ ino. count_below most_blocks (λ k. tree_slot-frame ino k i == address)) (filter (λ n. is_inode-frame n i) (numbers_below (nid_limit (layout_same i))))

  pub nodes_with-frame : (address : ℕ) → nodes_with other address ≡ nodes_with image address
  unfolding nodes_with
  nodes_with-frame address = λ i. count_below (nid_limit (layout_same i)) (λ nid. option_map_or (λ e. e.address == address) (nat_same nid i) false)

  pub nid_with-frame : (address : ℕ) → nid_with other address ≡ nid_with image address
  unfolding nid_with
  nid_with-frame address = λ i. find (λ nid. option_map_or (λ e. e.address == address) (nat_same nid i) false) (numbers_below (nid_limit (layout_same i)))

  pub slot_with-frame : (address : ℕ) → slot_with other address ≡ slot_with image address
  unfolding slot_with
  slot_with-frame address = λ i.
      find (λ place. tree_slot-frame place.0 place.1 i == address)
      (flat_map (λ ino. map (λ k. (ino, k)) (numbers_below most_blocks)) (filter (λ n. is_inode-frame n i) (numbers_below (nid_limit (layout_same i)))))

  abbrev spot_by : (ℕ → Option Block) → ℕ × ℕ → ℕ × ℕ
  spot_by read place = unwrap_or (option_and_then (λ b. locate place.1 (address_count b)) (read place.0)) (0, 0)

  pub spot_of-frame : (place : ℕ × ℕ) → spot_of other place ≡ spot_of image place
  spot_of-frame place = λ i. spot_by (λ n. read_node-frame n i) place

  pub nid_of_spot-frame : (place : ℕ × ℕ) → nid_of_spot other place ≡ nid_of_spot image place
  nid_of_spot-frame place = λ i. if (spot_of-frame place i).0 == 0 then place.0 else nid_slot-frame place.0 (spot_of-frame place i).0 i

  pub nid_wanted-frame : (address : ℕ) → nid_wanted other address ≡ nid_wanted image address
  nid_wanted-frame address = λ i. option_map_or (λ place. nid_of_spot-frame place i) (slot_with-frame address i) (unwrap_or (nid_with-frame address i) none_value)

  pub times_named-frame : (nid : ℕ) → times_named other nid ≡ times_named image nid
  unfolding times_named
  times_named-frame nid = λ i.
      sum_by (λ ino. count_below offset_limit (λ offset. nid_slot-frame ino offset i == nid) + digit (option_map_or xattr_nid (read_node-frame ino i) 0 == nid))
      (filter (λ n. is_inode-frame n i) (numbers_below (nid_limit (layout_same i))))

  pub used_slots-frame : (ino : ℕ) → used_slots other ino ≡ used_slots image ino
  used_slots-frame ino = λ i. count_below most_blocks (λ k. not (tree_slot-frame ino k i == 0))
