-- Another image with the support of a checked one: the rules on the copies, the checkpoint, nodes, addresses, inodes, links and attributes.
use Rattle.std.proofs.Common.{◌≡◌, ℕ, ◌+◌, ◌-◌, ◌<◌, List, [], ◌∷◌, ◌++◌, Bool, true, false, ◌==◌, ◌&&◌, not, nat_le, nat_lt, Option, refl, ap, ◌∙◌, arith}
use Rattle.std.specs.Prelude.{flat_map, find, bit_and, is_none, is_some, count_by, if◌then◌else◌}
use Rattle.std.specs.Option.{option_map_or}
use Rattle.std.specs.List.{range_with_len}
use Rattle.std.proofs.lemmas.Bool.{and_parts, eqb-true, not-false}
use Rattle.f2_bytes.specs.Bytes.{Block, Image, block_at, count_below}
use Rattle.f2_bytes.specs.Superblock.{copy_row, copy_of, passes, layout, is_main, is_compared_row}
use Rattle.f2_bytes.specs.Checkpoint.{head, ckpt_flags}
use Rattle.f2_bytes.specs.NodeAddressTable.{nid_limit, nat}
use Rattle.f2_bytes.specs.Node.{footer_nid, footer_ino, node_offset, mode, has_type, is_directory, is_regular, links, blocks, xattr_nid, ext_fofs, ext_addr, ext_len, offset_limit, attribute_offset, most_blocks}
use Rattle.f2_bytes.specs.Tree.{tree_slot, nid_slot}
use Rattle.f2_bytes.specs.Check.{offset_of_node, slots_with, nodes_with, used_slots, Comparison, part_defects, defects, same, fails_where, where_true, of_value, part_by_one, single, is_address, digit, extent_found, only_directory, is_readable, failing_rule, is_checked, is_rule_met, superblock_parts, checkpoint_parts, node_parts, address_parts, inode_parts, link_parts, attribute_parts}
use Rattle.f2_bytes.specs.Laws.{AgreesOnSupport}
use Rattle.f2_bytes.proofs.CheckLaws.{none_fails}
use Rattle.f2_bytes.proofs.CheckedChain.{part_clear}
use Rattle.f2_bytes.proofs.CheckedNodes.{no_part}
use Rattle.f2_bytes.proofs.Terms.{true_from_digit}
use Rattle.f2_bytes.proofs.InSupport.{copy_in}
use Rattle.f2_bytes.proofs.SameParts.{part_same}
use Rattle.f2_bytes.proofs.FrameTables.{head-frame}
use Rattle.f2_bytes.proofs.FrameNodes.{nat_same, nid_slot-frame, offset_of_node-frame, slots_with-frame, nodes_with-frame, times_named-frame, used_slots-frame}
use Rattle.f2_bytes.proofs.FrameTree.{loads, counts, same_layout, same_read, same_slot, same_inode, same_inode_of, directory_of-frame, names_in-frame, name_count-frame, is_least_ancestor-frame}
use Rattle.f2_bytes.proofs.FrameChain.{chain_length-frame, orphan_count-frame}

-- rule 1 is met on a checked image, so both copies pass
first_fails_not : (p : ℕ → Bool) (x : ℕ) (xs : List ℕ) → is_none (find p (x ∷ xs)) ≡ true → p x ≡ false
first_fails_not p x xs h = go (p x) refl
  where
    go : (b : Bool) → p x ≡ b → p x ≡ false
    go true e = absurd (impossible (rw e at h))
      where
        impossible : false ≡ true → ⊥
        impossible e = cc
    go false e = e

true_from_one : (b : Bool) → digit b ≡ 1 → b ≡ true
true_from_one b one = true_from_digit b (omega (arith, one))

pub both_pass : (image : Image) → is_checked image ≡ true → (n : ℕ) → n < 2 → passes (block_at image n) ≡ true
unfolding defects superblock_parts
both_pass image h n low =
    let met : is_rule_met image 1 ≡ true = not-false (is_rule_met image 1) (first_fails_not (λ rule. not (is_rule_met image rule)) 1 (range_with_len 2 11) (and_parts (is_readable image) (is_none (failing_rule image 1)) h).1) in
    let clear = part_clear (superblock_parts image) met 0 no_part (omega arith) in
    let found = digit (passes (block_at image n)) in
    let one : found ≡ 1 = eqb-true found 1 (not-false _ (none_fails _ clear n 0 low (omega arith) (record { found = found; wanted = 1; fails = not (found == 1) }) refl)) in
    true_from_one (passes (block_at image n)) one

module _ (image other : Image) (s : AgreesOnSupport image other) (h : is_checked image ≡ true) where
  pub same_nat : (nid : ℕ) → nat other nid ≡ nat image nid
  same_nat nid = nat_same image other s (loads image other s h) (counts image other s h) nid

  pub same_head : head other ≡ head image
  same_head = head-frame image other s (loads image other s h) (counts image other s h)

  copy_same : (n : ℕ) → n < 2 → block_at other n ≡ block_at image n
  copy_same n low = s.blocks n (copy_in image n low (both_pass image h n low))

  pub superblock-frame : flat_map part_defects (superblock_parts other) ≡ flat_map part_defects (superblock_parts image)
  unfolding superblock_parts
  superblock-frame =
      let first : part_defects (part_by_one 1 2 (λ copy. same (digit (passes (block_at other copy))) 1)) ≡ part_defects (part_by_one 1 2 (λ copy. same (digit (passes (block_at image copy))) 1))
      = part_same _ _ refl refl (λ a. refl) (λ copy b low inside. ap (λ p. same (digit p) 1) (s.copies copy low)) in
      λ i. first i ++ flat_map part_defects (part_by_one 2 33 (λ row. where_true (is_compared_row row) (same (copy_row (copy_of (copy_same 1 (omega arith) i)) row) (copy_row (copy_of (copy_same 0 (omega arith) i)) row))) ∷ [])

  pub checkpoint-frame : flat_map part_defects (checkpoint_parts other) ≡ flat_map part_defects (checkpoint_parts image)
  unfolding checkpoint_parts
  checkpoint-frame = λ i. flat_map part_defects
      (single 1 (same (orphan_count-frame image other s h i) 0)
      ∷ single 2 (same (chain_length-frame image other s h i) 0)
      ∷ single 3 (same (bit_and (ckpt_flags (same_head i)) 0x1018) 0)
      ∷ [])

  abbrev mode_by : (ℕ → Option Block) → ℕ → Option Comparison
  mode_by inode nid =
      if nid == 3 then fails_where (is_none (only_directory (inode 3))) (option_map_or mode (inode 3) 0) 0x4000
      else of_value (inode nid) (λ b. fails_where (not (has_type b)) (mode b) 0)

  pub same_limit : nid_limit (layout other) ≡ nid_limit (layout image)
  same_limit = ap nid_limit (same_layout image other s h)

  same_nid_slot : (ino offset : ℕ) → nid_slot other ino offset ≡ nid_slot image ino offset
  same_nid_slot ino offset = nid_slot-frame image other s (loads image other s h) (counts image other s h) ino offset

  same_offset : (nid ino : ℕ) → offset_of_node other nid ino ≡ offset_of_node image nid ino
  same_offset nid ino = offset_of_node-frame image other s (loads image other s h) (counts image other s h) nid ino

  offset_at : (ino offset : ℕ) → offset_of_node other (nid_slot other ino offset) ino ≡ offset_of_node image (nid_slot image ino offset) ino
  offset_at ino offset = ap (λ nid. offset_of_node other nid ino) (same_nid_slot ino offset) ∙ same_offset (nid_slot image ino offset) ino

  pub node-frame : flat_map part_defects (node_parts other) ≡ flat_map part_defects (node_parts image)
  unfolding node_parts
  node-frame = λ i. flat_map part_defects
      (part_by_one 1 (same_limit i) (λ nid. of_value (same_nat nid i) (λ e. fails_where (not (is_main (same_layout image other s h i) e.address)) e.address (same_layout image other s h i).main))
      ∷ part_by_one 2 (same_limit i) (λ nid. of_value (same_read image other s h nid i) (λ b. same (footer_nid b) nid))
      ∷ part_by_one 3 (same_limit i) (λ nid. of_value (same_read image other s h nid i) (λ b. of_value (same_nat nid i) (λ e. same (footer_ino b) e.ino)))
      ∷ part_by_one 4 (same_limit i) (λ nid. of_value (same_inode_of image other s h nid i) (λ b. same (node_offset b) 0))
      ∷ part_by_one 5 (same_limit i) (mode_by (λ nid. same_inode_of image other s h nid i))
      ∷ record {
        number = 6;
        first_limit = same_limit i;
        second_limit = λ _. offset_limit;
        comparison = λ ino offset. where_true (same_inode image other s h ino i && not (same_nid_slot ino offset i == 0))
            (same (offset_at ino offset i) offset);
      }
      ∷ part_by_one 7 (same_limit i) (λ nid. where_true (is_some (same_nat nid i) && not (same_inode image other s h nid i)) (same (times_named-frame image other s (loads image other s h) (counts image other s h) nid i) 1))
      ∷ [])

  slots_at : (ino k : ℕ) → slots_with other (tree_slot other ino k) ≡ slots_with image (tree_slot image ino k)
  slots_at ino k = ap (slots_with other) (same_slot image other s h ino k) ∙ slots_with-frame image other s (loads image other s h) (counts image other s h) (tree_slot image ino k)

  nodes_at : (ino k : ℕ) → nodes_with other (tree_slot other ino k) ≡ nodes_with image (tree_slot image ino k)
  nodes_at ino k = ap (nodes_with other) (same_slot image other s h ino k) ∙ nodes_with-frame image other s (loads image other s h) (counts image other s h) (tree_slot image ino k)

  pub address-frame : flat_map part_defects (address_parts other) ≡ flat_map part_defects (address_parts image)
  unfolding address_parts
  address-frame = λ i. flat_map part_defects
      (record {
        number = 1;
        first_limit = same_limit i;
        second_limit = λ _. most_blocks;
        comparison = λ ino k. where_true (same_inode image other s h ino i && is_address (same_slot image other s h ino k i))
            (fails_where (not (is_main (same_layout image other s h i) (same_slot image other s h ino k i))) (same_slot image other s h ino k i) (same_layout image other s h i).main);
      }
      ∷ record {
        number = 2;
        first_limit = same_limit i;
        second_limit = λ _. most_blocks;
        comparison = λ ino k. where_true (same_inode image other s h ino i && is_address (same_slot image other s h ino k i)) (same (slots_at ino k i + nodes_at ino k i) 1);
      }
      ∷ [])

  pub same_used : (ino : ℕ) → used_slots other ino ≡ used_slots image ino
  same_used ino = used_slots-frame image other s (loads image other s h) (counts image other s h) ino

  pub inode-frame : flat_map part_defects (inode_parts other) ≡ flat_map part_defects (inode_parts image)
  unfolding inode_parts
  inode-frame = λ i. flat_map part_defects
      (part_by_one 1 (same_limit i) (λ ino. of_value (same_inode_of image other s h ino i) (λ b. same (blocks b) (count_below (same_limit i) (λ nid. option_map_or (λ e. e.ino == ino) (same_nat nid i) false) + same_used ino i)))
      ∷ part_by_one 2 (same_limit i) (λ ino. of_value (same_inode_of image other s h ino i) (λ b. same (links b)
      (if is_directory b then 2 + count_by (λ item. is_some (directory_of-frame image other s h item.ino i)) (names_in-frame image other s h ino i) else name_count-frame image other s h ino i)))
      ∷ record {
        number = 3;
        first_limit = same_limit i;
        second_limit = λ ino. option_map_or (λ b. ext_fofs b + ext_len b) (same_inode_of image other s h ino i) 0;
        comparison = λ ino k. of_value (same_inode_of image other s h ino i) (λ b. where_true (is_regular b && nat_le (ext_fofs b) k) (same (extent_found b (λ j. same_slot image other s h ino j i) k) (ext_addr b + k - ext_fofs b)));
      }
      ∷ [])

  pub link-frame : flat_map part_defects (link_parts other) ≡ flat_map part_defects (link_parts image)
  unfolding link_parts
  link-frame = λ i. flat_map part_defects
      (part_by_one 1 (same_limit i) (λ ino. of_value (same_inode_of image other s h ino i) (λ b. where_true (not (ino == 3)) (same (if is_directory b then name_count-frame image other s h ino i else digit (nat_lt 0 (name_count-frame image other s h ino i))) 1)))
      ∷ part_by_one 2 (same_limit i) (λ ino. of_value (directory_of-frame image other s h ino i) (λ b. same (digit (is_least_ancestor-frame image other s h ino i)) 0))
      ∷ part_by_one 3 4 (λ ino. where_true (ino == 3) (same (name_count-frame image other s h 3 i) 0))
      ∷ [])

  pub attribute-frame : flat_map part_defects (attribute_parts other) ≡ flat_map part_defects (attribute_parts image)
  unfolding attribute_parts
  attribute-frame = λ i. flat_map part_defects
      (part_by_one 1 (same_limit i) (λ ino. of_value (same_inode_of image other s h ino i) (λ b. where_true (not (xattr_nid b == 0)) (same (same_offset (xattr_nid b) ino i) attribute_offset)))
      ∷ [])
