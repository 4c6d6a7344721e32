-- What is read of a checked image and of the same after blocks moved.
use Rattle.std.proofs.Common.{◌≡◌, ℕ, ◌-◌, ◌^◌, true, ◌==◌, Some}
use Rattle.std.specs.Prelude.{option_map}
use Rattle.f2_bytes.specs.Bytes.{Block, Image}
use Rattle.f2_bytes.specs.Superblock.{layout, is_main}
use Rattle.f2_bytes.specs.NodeAddressTable.{nat}
use Rattle.f2_bytes.specs.Node.{node_offset, footer_nid, footer_ino, mode, inline_flags, links, size, blocks, current_depth, xattr_nid, dir_level, has_slots, is_inline, address_count, inline_area}
use Rattle.f2_bytes.specs.Object.{attributes_of, attribute_area_of}
use Rattle.f2_bytes.specs.Tree.{main_block, read_node, is_inode, nid_slot, tree_slot}
use Rattle.f2_bytes.specs.Check.{inode_of, directory_of, offset_of_node, is_address}
use Rattle.f2_bytes.specs.Moved.{IsMovedNode, moved_entry}
use Rattle.f2_bytes.proofs.Pairs.{Paired}

-- An inode and the same after the move: all stays but the addresses of blocks and the extent.
pub record IsMovedInode (to : ℕ → ℕ) (b c : Block) : Type 0 where
  pub node : IsMovedNode to b c
  pub at_zero : node_offset b ≡ 0
  pub same_offset : node_offset c ≡ node_offset b
  pub same_mode : mode c ≡ mode b
  pub same_flags : inline_flags c ≡ inline_flags b
  pub same_links : links c ≡ links b
  pub same_size : size c ≡ size b
  pub same_blocks : blocks c ≡ blocks b
  pub same_depth : current_depth c ≡ current_depth b
  pub same_xattr : xattr_nid c ≡ xattr_nid b
  pub same_level : dir_level c ≡ dir_level b
  pub same_slots : has_slots c ≡ has_slots b
  pub same_inline : is_inline c ≡ is_inline b
  pub same_count : address_count c ≡ address_count b
  pub same_area : is_inline b ≡ true → inline_area c ≡ inline_area b
  pub same_attributes : attributes_of c ≡ attributes_of b
  pub same_attribute_area : attribute_area_of c ≡ attribute_area_of b

-- What is read of the other image. Nid slots and slots are compared for inodes alone: what they say of other numbers is unused.
pub record ReadsMoved (to : ℕ → ℕ) (image other : Image) : Type 0 where
  pub same_layout : layout other ≡ layout image
  pub same_nat : (nid : ℕ) → nat other nid ≡ option_map (moved_entry to) (nat image nid)
  pub same_inode : (nid : ℕ) → is_inode other nid ≡ is_inode image nid
  -- the nodes: each of them, the inodes and the directories
  pub nodes : (nid : ℕ) → Paired (IsMovedNode to) (read_node image nid) (read_node other nid)
  pub inodes : (nid : ℕ) → Paired (IsMovedInode to) (inode_of image nid) (inode_of other nid)
  pub directories : (nid : ℕ) → Paired (IsMovedInode to) (directory_of image nid) (directory_of other nid)
  -- an inode has a node in both images
  pub inode : (ino : ℕ) → is_inode image ino ≡ true → (b : Block) × (c : Block) × (read_node image ino ≡ Some b) × (read_node other ino ≡ Some c) × IsMovedInode to b c
  pub same_footer_nid : (b c : Block) → IsMovedNode to b c → footer_nid c ≡ footer_nid b
  pub same_footer_ino : (b c : Block) → IsMovedNode to b c → footer_ino c ≡ footer_ino b
  pub same_node_offset : (b c : Block) → IsMovedNode to b c → node_offset c ≡ node_offset b
  pub same_offset : (nid ino : ℕ) → offset_of_node other nid ino ≡ offset_of_node image nid ino
  -- the slots of a file
  pub same_nid_slot : (ino offset : ℕ) → is_inode image ino ≡ true → nid_slot other ino offset ≡ nid_slot image ino offset
  pub slot : (ino k : ℕ) → is_inode image ino ≡ true → tree_slot other ino k ≡ to (tree_slot image ino k)
  pub slot_zero : (ino k : ℕ) → is_inode image ino ≡ true → tree_slot image ino k ≡ 0 → tree_slot other ino k ≡ 0
  pub same_hole : (ino k : ℕ) → is_inode image ino ≡ true → (tree_slot other ino k == 0) ≡ (tree_slot image ino k == 0)
  pub same_reserved : (ino k : ℕ) → is_inode image ino ≡ true → (tree_slot other ino k == 2 ^ 32 - 1) ≡ (tree_slot image ino k == 2 ^ 32 - 1)
  pub slot_main : (ino k : ℕ) → is_inode image ino ≡ true → is_address (tree_slot image ino k) ≡ true → is_main (layout image) (to (tree_slot image ino k)) ≡ true
  pub same_is_address : (ino k : ℕ) → is_inode image ino ≡ true → is_address (tree_slot other ino k) ≡ is_address (tree_slot image ino k)
  pub slot_block : (ino k : ℕ) → is_inode image ino ≡ true → main_block other (tree_slot other ino k) ≡ main_block image (tree_slot image ino k)
