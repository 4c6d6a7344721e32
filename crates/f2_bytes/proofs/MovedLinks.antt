-- An image whose blocks moved: the rules on links, attribute nodes and directories.
use Rattle.std.proofs.Common.{◌≡◌, ℕ, ◌/◌, [], ◌++◌, true, ◌==◌, not, nat_lt, cond, Option, Some, length, refl, ap, ◌∙◌, arith}
use Rattle.std.specs.Prelude.{flat_map, unwrap_or, if◌then◌else◌}
use Rattle.f2_bytes.specs.Bytes.{Block, Image, has_bit}
use Rattle.f2_bytes.specs.Node.{mode, type_of_mode, is_directory, xattr_nid, attribute_offset}
use Rattle.f2_bytes.specs.Check.{Comparison, part_defects, same, where_true, of_value, part_by_one, digit, nids, inode_of, directory_of, offset_of_node, name_count, is_least_ancestor, is_checked, is_rule_met, defects, kind_of_inode, none_value, item_parts, tree_reading, directory_parts, link_parts, attribute_parts}
use Rattle.f2_bytes.proofs.Pairs.{Paired, paired_value, paired_or}
use Rattle.f2_bytes.proofs.SameParts.{part_same}
use Rattle.f2_bytes.proofs.CheckedChain.{rule_met}
use Rattle.f2_bytes.proofs.SlotSupport.{body_checked}
use Rattle.f2_bytes.proofs.MovedCounts.{same_limit}
use Rattle.f2_bytes.proofs.MovedReads.{IsMovedInode, ReadsMoved}
use Rattle.f2_bytes.proofs.MovedTree.{inode_from, tree_items-moved, least_parent-moved, name_count-moved, is_least_ancestor-moved}
use Rattle.f2_bytes.proofs.SameReadings.{IsSameDirectory, item_parts-same}

module _ (to : ℕ → ℕ) (image other : Image) (h : is_checked image ≡ true) (r : ReadsMoved to image other) where
  names : (target : ℕ) → name_count other target ≡ name_count image target
  names target = name_count-moved to image other h r target

  -- a part with a comparison for each inode, and for each directory
  pub inodes_same : (number : ℕ) (f g : ℕ → Block → Option Comparison) → ((ino : ℕ) (b c : Block) → inode_of image ino ≡ Some b → IsMovedInode to b c → g ino c ≡ f ino b)
      → part_defects (part_by_one number (nids other) (λ ino. of_value (inode_of other ino) (g ino))) ≡ part_defects (part_by_one number (nids image) (λ ino. of_value (inode_of image ino) (f ino)))
  inodes_same number f g each =
      part_same (part_by_one number (nids image) (λ ino. of_value (inode_of image ino) (f ino))) (part_by_one number (nids other) (λ ino. of_value (inode_of other ino) (g ino))) refl (same_limit to image other r) (λ a. refl)
      (λ ino b low inside. paired_value (IsMovedInode to) (inode_of image ino) (inode_of other ino) (f ino) (g ino) (r.inodes ino) (each ino))

  directories_same : (number : ℕ) (f g : ℕ → Block → Option Comparison) → ((ino : ℕ) (b c : Block) → directory_of image ino ≡ Some b → IsMovedInode to b c → g ino c ≡ f ino b)
      → part_defects (part_by_one number (nids other) (λ ino. of_value (directory_of other ino) (g ino))) ≡ part_defects (part_by_one number (nids image) (λ ino. of_value (directory_of image ino) (f ino)))
  directories_same number f g each =
      part_same (part_by_one number (nids image) (λ ino. of_value (directory_of image ino) (f ino))) (part_by_one number (nids other) (λ ino. of_value (directory_of other ino) (g ino))) refl (same_limit to image other r) (λ a. refl)
      (λ ino b low inside. paired_value (IsMovedInode to) (directory_of image ino) (directory_of other ino) (f ino) (g ino) (r.directories ino) (each ino))

  links_of : (ℕ → ℕ) → ℕ → Block → Option Comparison
  links_of count ino b = where_true (not (ino == 3)) (same (if is_directory b then count ino else digit (nat_lt 0 (count ino))) 1)

  pub links-moved : flat_map part_defects (link_parts other) ≡ flat_map part_defects (link_parts image)
  unfolding link_parts links_of
  links-moved = λ i. first i ++ (second i ++ (third i ++ []))
    where
      first : part_defects (part_by_one 1 (nids other) (λ ino. of_value (inode_of other ino) (links_of (name_count other) ino)))
          ≡ part_defects (part_by_one 1 (nids image) (λ ino. of_value (inode_of image ino) (links_of (name_count image) ino)))
      first = inodes_same 1 (links_of (name_count image)) (links_of (name_count other)) (λ ino b c is n. λ i.
          where_true (not (ino == 3)) (same (cond (n.same_mode i / 4096 == 4) (names ino i) (digit (nat_lt 0 (names ino i)))) 1))

      second : part_defects (part_by_one 2 (nids other) (λ ino. of_value (directory_of other ino) (λ b. same (digit (is_least_ancestor other ino)) 0)))
          ≡ part_defects (part_by_one 2 (nids image) (λ ino. of_value (directory_of image ino) (λ b. same (digit (is_least_ancestor image ino)) 0)))
      second = directories_same 2 (λ ino b. same (digit (is_least_ancestor image ino)) 0) (λ ino b. same (digit (is_least_ancestor other ino)) 0) (λ ino b c is n.
          ap (λ loops. same (digit loops) 0) (is_least_ancestor-moved to image other h r ino))

      third : part_defects (part_by_one 3 4 (λ ino. where_true (ino == 3) (same (name_count other 3) 0))) ≡ part_defects (part_by_one 3 4 (λ ino. where_true (ino == 3) (same (name_count image 3) 0)))
      third = λ i. part_defects (part_by_one 3 4 (λ ino. where_true (ino == 3) (same (names 3 i) 0)))

  pub links_met : is_rule_met other 11 ≡ true
  unfolding defects
  links_met =
      let met = rule_met image (body_checked image h) 11 (omega arith) (omega arith) in
      ap (λ xs. length xs == 0) links-moved ∙ met

  pub attributes-moved : flat_map part_defects (attribute_parts other) ≡ flat_map part_defects (attribute_parts image)
  unfolding attribute_parts
  attributes-moved = λ i. first i ++ []
    where
      first : part_defects (part_by_one 1 (nids other) (λ ino. of_value (inode_of other ino) (λ b. where_true (not (xattr_nid b == 0)) (same (offset_of_node other (xattr_nid b) ino) attribute_offset))))
          ≡ part_defects (part_by_one 1 (nids image) (λ ino. of_value (inode_of image ino) (λ b. where_true (not (xattr_nid b == 0)) (same (offset_of_node image (xattr_nid b) ino) attribute_offset))))
      first = inodes_same 1 (λ ino b. where_true (not (xattr_nid b == 0)) (same (offset_of_node image (xattr_nid b) ino) attribute_offset)) (λ ino b. where_true (not (xattr_nid b == 0)) (same (offset_of_node other (xattr_nid b) ino) attribute_offset)) (λ ino b c is n.
          ap (λ nid. where_true (not (nid == 0)) (same (offset_of_node other nid ino) attribute_offset)) n.same_xattr
          ∙ ap (λ offset. where_true (not (xattr_nid b == 0)) (same offset attribute_offset)) (r.same_offset (xattr_nid b) ino))

  pub attributes_met : is_rule_met other 12 ≡ true
  unfolding defects
  attributes_met =
      let met = rule_met image (body_checked image h) 12 (omega arith) (omega arith) in
      ap (λ xs. length xs == 0) attributes-moved ∙ met

  -- ---- directories

  same_fields : (b c : Block) → IsMovedInode to b c → IsSameDirectory b c
  same_fields b c n = record {
    same_inline = n.same_inline;
    same_dots = ap (λ flags. has_bit flags 4) n.same_flags;
    same_size = n.same_size;
    same_depth = n.same_depth;
    same_level = n.same_level;
  }

  same_directories : (ino : ℕ) → Paired IsSameDirectory (directory_of image ino) (directory_of other ino)
  same_directories ino = record {
    none = (r.directories ino).none;
    some = λ b is. let t = (r.directories ino).some b is in (t.0, t.1, same_fields b t.0 t.2);
  }

  -- the type that an entry has to say
  same_kind : (ino : ℕ) → kind_of_inode (inode_of other ino) ≡ kind_of_inode (inode_of image ino)
  same_kind ino =
      paired_or (IsMovedInode to) (inode_of image ino) (inode_of other ino) (λ b. unwrap_or (type_of_mode (mode b)) 0) (λ b. unwrap_or (type_of_mode (mode b)) 0) none_value (r.inodes ino)
      (λ b c is n. ap (λ m. unwrap_or (type_of_mode m) 0) n.same_mode)

  pub directories-moved : flat_map part_defects (directory_parts other) ≡ flat_map part_defects (directory_parts image)
  unfolding tree_reading
  directories-moved =
      ap (λ n. flat_map part_defects (item_parts n (tree_reading other))) (same_limit to image other r)
      ∙ ap (flat_map part_defects)
      (item_parts-same (nids image) (tree_reading image) (tree_reading other) same_directories same_kind
      (λ ino d. tree_items-moved to image other h r ino (inode_from to image other h r ino d))
      (least_parent-moved to image other h r))

  pub directories_met : is_rule_met other 10 ≡ true
  unfolding defects
  directories_met =
      let met = rule_met image (body_checked image h) 10 (omega arith) (omega arith) in
      ap (λ xs. length xs == 0) directories-moved ∙ met
