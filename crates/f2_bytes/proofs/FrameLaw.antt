-- Another image with the support of a checked one is checked, and has the same tree.
use Rattle.std.proofs.Common.{◌≡◌, ℕ, zero, suc, ◌-◌, [], true, ◌==◌, ◌&&◌, not, get_or, length, refl, ap, ◌∙◌}
use Rattle.std.specs.Prelude.{flat_map, find, is_none}
use Rattle.std.specs.List.{range_with_len}
use Rattle.std.proofs.lemmas.Bool.{and_parts, and_from}
use Rattle.f2_bytes.specs.Bytes.{Image}
use Rattle.f2_bytes.specs.Superblock.{is_loadable}
use Rattle.f2_bytes.specs.Checkpoint.{has_checkpoint, pack}
use Rattle.f2_bytes.specs.Journal.{are_journals_bounded}
use Rattle.f2_bytes.specs.Check.{directory_of, part_defects, item_parts, tree_reading, directory_parts, nids, rules, defects, failing_rule, is_readable, is_checked, kind_of_inode}
use Rattle.f2_bytes.specs.Laws.{AgreesOnSupport, SupportKeepsTree}
use Rattle.f2_bytes.proofs.FrameTables.{is_loadable-frame, has_checkpoint-frame, journals_same}
use Rattle.f2_bytes.proofs.FrameTree.{loads, counts, same_inode_of, directory_of-frame, tree_items-frame, directory_inode, least_parent-frame, tree-frame}
use Rattle.f2_bytes.proofs.FrameRules.{same_limit, superblock-frame, checkpoint-frame, node-frame, address-frame, inode-frame, link-frame, attribute-frame}
use Rattle.f2_bytes.proofs.FrameMarks.{validity-frame, summaries-frame, count-frame, log-frame}
use Rattle.f2_bytes.proofs.SlotSupport.{readable_loads}
use Rattle.f2_bytes.proofs.SameReadings.{IsSameDirectory, same_directory, item_parts-same}
use Rattle.f2_bytes.proofs.Pairs.{paired_same}

module _ (image other : Image) (s : AgreesOnSupport image other) (h : is_checked image ≡ true) where
  directory-frame : flat_map part_defects (directory_parts other) ≡ flat_map part_defects (directory_parts image)
  unfolding tree_reading
  directory-frame =
      ap (λ n. flat_map part_defects (item_parts n (tree_reading other))) (same_limit image other s h)
      ∙ ap (flat_map part_defects)
      (item_parts-same (nids image) (tree_reading image) (tree_reading other)
      (λ ino. paired_same IsSameDirectory (directory_of image ino) (directory_of other ino) same_directory (directory_of-frame image other s h ino))
      (λ ino. ap kind_of_inode (same_inode_of image other s h ino))
      (λ ino d. tree_items-frame image other s h ino (directory_inode image other s h ino d))
      (least_parent-frame image other s h))

  rule-frame : (k : ℕ) → flat_map part_defects (get_or (rules other) k []) ≡ flat_map part_defects (get_or (rules image) k [])
  rule-frame zero = superblock-frame image other s h
  rule-frame (suc zero) = checkpoint-frame image other s h
  rule-frame (suc (suc zero)) = node-frame image other s h
  rule-frame (suc (suc (suc zero))) = address-frame image other s h
  rule-frame (suc (suc (suc (suc zero)))) = validity-frame image other s h
  rule-frame (suc (suc (suc (suc (suc zero))))) = summaries-frame image other s h
  rule-frame (suc (suc (suc (suc (suc (suc zero)))))) = count-frame image other s h
  rule-frame (suc (suc (suc (suc (suc (suc (suc zero))))))) = log-frame image other s h
  rule-frame (suc (suc (suc (suc (suc (suc (suc (suc zero)))))))) = inode-frame image other s h
  rule-frame (suc (suc (suc (suc (suc (suc (suc (suc (suc zero))))))))) = directory-frame
  rule-frame (suc (suc (suc (suc (suc (suc (suc (suc (suc (suc zero)))))))))) = link-frame image other s h
  rule-frame (suc (suc (suc (suc (suc (suc (suc (suc (suc (suc (suc zero))))))))))) = attribute-frame image other s h
  rule-frame (suc (suc (suc (suc (suc (suc (suc (suc (suc (suc (suc (suc k)))))))))))) = refl

  -- the same defects by each rule
  pub defects-frame : (rule : ℕ) → defects other rule ≡ defects image rule
  unfolding defects
  defects-frame rule = rule-frame (rule - 1)

  pub failing_rule-frame : (first : ℕ) → failing_rule other first ≡ failing_rule image first
  failing_rule-frame first = λ i. find (λ rule. not (length (defects-frame rule i) == 0)) (range_with_len first (13 - first))

  pub is_readable-frame : is_readable other ≡ true
  is_readable-frame =
      let journals : are_journals_bounded (pack image) ≡ true = (and_parts _ _ (and_parts _ _ h).0).1 in
      and_from (is_loadable other && has_checkpoint other) (are_journals_bounded (pack other))
      (and_from (is_loadable other) (has_checkpoint other)
      (is_loadable-frame image other s (loads image other s h) (counts image other s h) (readable_loads image h))
      (has_checkpoint-frame image other s (loads image other s h) (counts image other s h)))
      (journals_same image other s (loads image other s h) (counts image other s h) ∙ journals)

  pub is_checked-frame : is_checked other ≡ true
  is_checked-frame = and_from (is_readable other) (is_none (failing_rule other 1)) is_readable-frame (ap is_none (failing_rule-frame 1) ∙ (and_parts _ _ h).1)

-- the law
pub support_keeps_tree : SupportKeepsTree
support_keeps_tree image other s h = (is_checked-frame image other s h, tree-frame image other s h)
