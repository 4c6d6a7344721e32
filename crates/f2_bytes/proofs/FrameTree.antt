-- Another image with the support of a checked one has the same tree.
use Rattle.std.proofs.Common.{◌≡◌, ℕ, zero, suc, ◌+◌, ◌-◌, ◌^◌, [], Bool, true, false, ◌==◌, ◌&&◌, nat_lt, cond, filter, Option, None, sum_by, refl, ap, ◌∙◌}
use Rattle.std.specs.Prelude.{option_and_then, option_map, find, is_some, count_by, if◌then◌else◌}
use Rattle.std.specs.Option.{option_map_or}
use Rattle.std.specs.List.{list_any}
use Rattle.std.proofs.lemmas.Bool.{and_parts, false≢true}
use Rattle.f2_bytes.specs.Bytes.{Block, Image, numbers_below}
use Rattle.f2_bytes.specs.Superblock.{super_copy, layout}
use Rattle.f2_bytes.specs.Checkpoint.{has_checkpoint}
use Rattle.f2_bytes.specs.NodeAddressTable.{nid_limit}
use Rattle.f2_bytes.specs.Node.{xattr_nid, is_directory}
use Rattle.f2_bytes.specs.Directory.{directory_items}
use Rattle.f2_bytes.specs.Object.{Piece, hole, reserved, stored, object_of, gives_name, is_name}
use Rattle.f2_bytes.specs.Tree.{main_block, read_node, tree_slot, piece_at, tree_items, tree_object, is_inode, tree}
use Rattle.f2_bytes.specs.Check.{is_checked, inode_of, directory_of, only_directory, names_in, names_for, name_count, least_parent, least_ancestor, is_least_ancestor}
use Rattle.f2_bytes.specs.Laws.{AgreesOnSupport}
use Rattle.f2_bytes.proofs.PackReads.{cond_same}
use Rattle.f2_bytes.proofs.FrameTables.{layout-frame}
use Rattle.f2_bytes.proofs.FrameNodes.{main_block-frame, read_node-frame, tree_slot-frame, is_inode-frame, inode_of-frame}
use Rattle.f2_bytes.proofs.SlotSupport.{readable_loads, tree_slot_support}

module _ (image other : Image) (s : AgreesOnSupport image other) (h : is_checked image ≡ true) where
  pub loads : is_some (super_copy image) ≡ true
  loads = (and_parts _ _ (and_parts _ _ (and_parts _ _ (readable_loads image h)).0).0).0

  pub counts : has_checkpoint image ≡ true
  counts = (and_parts _ _ (and_parts _ _ (and_parts _ _ h).0).0).1

  pub same_layout : layout other ≡ layout image
  same_layout = layout-frame image other s loads counts

  pub same_read : (nid : ℕ) → read_node other nid ≡ read_node image nid
  same_read nid = read_node-frame image other s loads counts nid

  pub same_slot : (ino k : ℕ) → tree_slot other ino k ≡ tree_slot image ino k
  same_slot ino k = tree_slot-frame image other s loads counts ino k

  pub same_inode : (nid : ℕ) → is_inode other nid ≡ is_inode image nid
  same_inode nid = is_inode-frame image other s loads counts nid

  pub same_inode_of : (nid : ℕ) → inode_of other nid ≡ inode_of image nid
  same_inode_of nid = inode_of-frame image other s loads counts nid

  -- the block of a file
  slot_block-frame : (ino k : ℕ) → is_inode image ino ≡ true → main_block other (tree_slot other ino k) ≡ main_block image (tree_slot image ino k)
  slot_block-frame ino k inode = ap (main_block other) (same_slot ino k) ∙ main_block-frame image other s loads counts (tree_slot image ino k) (tree_slot_support image h ino k inode)

  abbrev piece_by : ℕ → Option Block → Piece
  piece_by address o = if address == 2 ^ 32 - 1 then reserved else option_map_or stored o hole

  piece-frame : (ino k : ℕ) → is_inode image ino ≡ true → piece_at other (tree_slot other ino k) ≡ piece_at image (tree_slot image ino k)
  piece-frame ino k inode = λ i. piece_by (same_slot ino k i) (slot_block-frame ino k inode i)

  pub tree_items-frame : (ino : ℕ) → is_inode image ino ≡ true → tree_items other ino ≡ tree_items image ino
  unfolding tree_items
  tree_items-frame ino inode = λ i. option_map_or (λ b. directory_items b (λ k. slot_block-frame ino k inode i)) (same_read ino i) []

  tree_object-frame : (ino : ℕ) (b : Block) → is_inode image ino ≡ true → tree_object other ino b ≡ tree_object image ino b
  tree_object-frame ino b inode = λ i.
      object_of b (λ k. piece-frame ino k inode i) (same_read (xattr_nid b) i) (λ name target. is_directory b && gives_name (tree_items-frame ino inode i) name target)

  pub tree-frame : tree other ≡ tree image
  unfolding tree
  tree-frame = λ i ino. at ino i
    where
      at : (ino : ℕ) → tree other ino ≡ tree image ino
      at ino =
          let parts : tree other ino ≡ cond (is_inode image ino) (option_map (tree_object other ino) (read_node image ino)) None
          = λ i. cond (same_inode ino i) (option_map (tree_object other ino) (same_read ino i)) None in
          parts ∙ cond_same (is_inode image ino) (λ inode. λ i. option_map (λ b. tree_object-frame ino b inode i) (read_node image ino)) (λ none. refl)

  -- ---- directories

  -- a directory is an inode
  pub directory_inode : (ino : ℕ) → is_some (directory_of image ino) ≡ true → is_inode image ino ≡ true
  directory_inode ino d = go (is_inode image ino) refl
    where
      go : (b : Bool) → is_inode image ino ≡ b → is_inode image ino ≡ true
      go true e = e
      go false e =
          let no : false ≡ true = rw e at d in
          absurd (false≢true no)

  pub directory_of-frame : (ino : ℕ) → directory_of other ino ≡ directory_of image ino
  directory_of-frame ino = λ i. only_directory (same_inode_of ino i)

  pub names_in-frame : (ino : ℕ) → names_in other ino ≡ names_in image ino
  names_in-frame ino =
      let parts : names_in other ino ≡ cond (is_some (directory_of image ino)) (filter is_name (tree_items other ino)) []
      = λ i. cond (is_some (directory_of-frame ino i)) (filter is_name (tree_items other ino)) [] in
      parts ∙ cond_same (is_some (directory_of image ino)) (λ d. ap (filter is_name) (tree_items-frame ino (directory_inode ino d))) (λ none. refl)

  pub names_for-frame : (target ino : ℕ) → names_for other target ino ≡ names_for image target ino
  names_for-frame target ino = λ i. count_by (λ item. item.ino == target) (names_in-frame ino i)

  pub name_count-frame : (target : ℕ) → name_count other target ≡ name_count image target
  unfolding name_count
  name_count-frame target = λ i. sum_by (λ ino. names_for-frame target ino i) (numbers_below (nid_limit (same_layout i)))

  pub least_parent-frame : (target : ℕ) → least_parent other target ≡ least_parent image target
  unfolding least_parent
  least_parent-frame target = λ i. find (λ ino. nat_lt 0 (names_for-frame target ino i)) (numbers_below (nid_limit (same_layout i)))

  pub least_ancestor-frame : (n ino : ℕ) → least_ancestor other n ino ≡ least_ancestor image n ino
  unfolding least_ancestor
  least_ancestor-frame zero ino = refl
  least_ancestor-frame (suc n) ino = λ i. option_and_then (λ up. least_parent-frame up i) (least_ancestor-frame n ino i)

  pub is_least_ancestor-frame : (ino : ℕ) → is_least_ancestor other ino ≡ is_least_ancestor image ino
  unfolding is_least_ancestor
  is_least_ancestor-frame ino = λ i. list_any (λ n. option_map_or (λ up. up == ino) (least_ancestor-frame (n + 1) ino i) false) (numbers_below (nid_limit (same_layout i)))
