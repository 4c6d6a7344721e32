use Rattle.std.proofs.Common.{◌+◌, ◌++◌, ◌^◌, ◌<◌, refl, subst, ◌∙◌, arith}
use Rattle.f2_bytes.specs.Check.{same}
use Rattle.f2_defects.specs.Collected.{Collects, defects_of}
use Rattle.f2_items.specs.Visits.{capped}
use Rattle.f2_files.proofs.UsageCounts.{usage-end}
use Rattle.f2_files.proofs.rule_9_blocks.Usage.end.Goals as goal

pub returns : goal.returns
returns c = λ image inode is inside.
    let old = c.args.self.now in
    let wanted = c.saturating_add-wanted.ensures ∙ (λ i. capped (old.in_file + (c.from.ensures ∙ c.nodes_of-nodes.ensures) i)) in
    let small : c.nodes_of-nodes.result < 2 ^ 32 = omega arith in
    usage-end image c.args.ino inode old _ is inside refl c.in_ok-same.ensures.part
    (λ defects of. subst (Collects c.same.new.self) (λ i. defects ++ defects_of old.defects.part (c.from-2.ensures i) 0 (same old.blocks (wanted i))) (c.in_ok-same.ensures.compares defects of))
    c.saturating_add-self.ensures
    (subst (λ n. n < 2 ^ 32) c.nodes_of-nodes.ensures small)
