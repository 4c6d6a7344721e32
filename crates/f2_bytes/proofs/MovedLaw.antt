-- A checked image whose blocks moved is checked, with the same tree.
use Rattle.std.proofs.Common.{◌≡◌, ℕ, zero, suc, ◌+◌, ◌^◌, ◌<◌, true, ◌==◌, ◌&&◌, not, None, ap, ◌∙◌, arith}
use Rattle.std.specs.Prelude.{is_none, is_some, nat_le}
use Rattle.std.proofs.lemmas.Bool.{and_from, not_from_true}
use Rattle.f2_bytes.specs.Bytes.{Image}
use Rattle.f2_bytes.specs.Superblock.{unsupported_features, block_count, is_loadable}
use Rattle.f2_bytes.specs.Checkpoint.{has_checkpoint, pack}
use Rattle.f2_bytes.specs.Journal.{are_journals_bounded}
use Rattle.f2_bytes.specs.Check.{failing_rule, is_readable, is_rule_met, is_checked}
use Rattle.f2_bytes.specs.Moved.{IsMoved, MovedKeepsTree}
use Rattle.f2_bytes.proofs.Finds.{find-none}
use Rattle.f2_bytes.proofs.SlotSupport.{readable_loads}
use Rattle.f2_bytes.proofs.MovedReads.{ReadsMoved}
use Rattle.f2_bytes.proofs.MovedNodes.{same_super_copy, same_super_bytes}
use Rattle.f2_bytes.proofs.MovedSlots.{reads_moved}
use Rattle.f2_bytes.proofs.MovedRules.{superblock_met, checkpoint_met, nodes_met, counts_met}
use Rattle.f2_bytes.proofs.MovedLinks.{directories_met, links_met, attributes_met}
use Rattle.f2_bytes.proofs.MovedMarks.{addresses_met, validity_met}
use Rattle.f2_bytes.proofs.MovedSummaries.{summaries_met}
use Rattle.f2_bytes.proofs.MovedLogs.{logs_met}
use Rattle.f2_bytes.proofs.MovedExtents.{inodes_met}
use Rattle.f2_bytes.proofs.MovedTree.{tree-moved}

-- an image that can be read and meets each rule is checked
checked_from : (image : Image) → is_readable image ≡ true → ((rule : ℕ) → rule < 12 → is_rule_met image (1 + rule) ≡ true) → is_checked image ≡ true
checked_from image readable met =
    let none : failing_rule image 1 ≡ None = find-none (λ rule. not (is_rule_met image rule)) 1 12 (λ k low. not_from_true (is_rule_met image (1 + k)) (met k low)) in
    and_from (is_readable image) (is_none (failing_rule image 1)) readable (ap is_none none)

module _ (to : ℕ → ℕ) (image other : Image) (h : is_checked image ≡ true) (m : IsMoved to image other) where
  reads : ReadsMoved to image other
  reads = reads_moved to image other h m

  loads-moved : is_loadable other ≡ true
  loads-moved =
      let same : is_loadable other ≡ is_loadable image
      = λ i. is_some (same_super_copy to image other h m i)
      && (unsupported_features (same_super_bytes to image other h m i) == 0)
      && nat_le (block_count (same_super_bytes to image other h m i)) (2 ^ 28)
      && nat_le (block_count (same_super_bytes to image other h m i)) (m.size i) in
      same ∙ readable_loads image h

  readable-moved : is_readable other ≡ true
  readable-moved =
      and_from (is_loadable other && has_checkpoint other) (are_journals_bounded (pack other))
      (and_from (is_loadable other) (has_checkpoint other) loads-moved m.checkpoint) m.journals

  -- each rule is met
  rules_met : (rule : ℕ) → rule < 12 → is_rule_met other (1 + rule) ≡ true
  rules_met zero low = superblock_met to image other h m reads
  rules_met (suc zero) low = checkpoint_met to image other h m reads
  rules_met (suc (suc zero)) low = nodes_met to image other h m reads
  rules_met (suc (suc (suc zero))) low = addresses_met to image other h m reads
  rules_met (suc (suc (suc (suc zero)))) low = validity_met to image other h m reads
  rules_met (suc (suc (suc (suc (suc zero))))) low = summaries_met to image other h m reads
  rules_met (suc (suc (suc (suc (suc (suc zero)))))) low = counts_met to image other h m reads
  rules_met (suc (suc (suc (suc (suc (suc (suc zero))))))) low = logs_met to image other h m
  rules_met (suc (suc (suc (suc (suc (suc (suc (suc zero)))))))) low = inodes_met to image other h reads
  rules_met (suc (suc (suc (suc (suc (suc (suc (suc (suc zero))))))))) low = directories_met to image other h reads
  rules_met (suc (suc (suc (suc (suc (suc (suc (suc (suc (suc zero)))))))))) low = links_met to image other h reads
  rules_met (suc (suc (suc (suc (suc (suc (suc (suc (suc (suc (suc zero))))))))))) low = attributes_met to image other h reads
  rules_met (suc (suc (suc (suc (suc (suc (suc (suc (suc (suc (suc (suc k)))))))))))) low = absurd (omega (arith, low))

  checked-moved : is_checked other ≡ true
  checked-moved = checked_from other readable-moved rules_met

-- the law
pub moved_keeps_tree : MovedKeepsTree
moved_keeps_tree to image other h m = (checked-moved to image other h m, tree-moved to image other h (reads_moved to image other h m))
