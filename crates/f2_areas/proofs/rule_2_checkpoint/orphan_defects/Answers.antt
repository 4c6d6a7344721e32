use Rattle.std.proofs.Common.{sym, ap, ◌∙◌, subst}
use Rattle.std.proofs.lemmas.Result.{IfOk-weaker}
use Rattle.f2_bytes.specs.Check.{part_defects, same, single}
use Rattle.f2_defects.specs.Collected.{Collects}
use Rattle.f2_areas.proofs.CheckpointParts.{orphan_part, counts_orphans}
use Rattle.f2_pack.specs.Held.{Held}
use Rattle.f2_areas.proofs.rule_2_checkpoint.orphan_defects.Goals as goal

pub returns : goal.returns
returns c =
    IfOk-weaker c.single_defects.result _ _
    (λ found collects image of.
    let own = c.orphans.ensures.value ∙ ap (λ (h : Held). h.orphan_inodes) (c.chosen.ensures ∙ of.chosen) in
    let count = counts_orphans image c.orphans.result.now c.in_ok-count.count own c.in_ok-count.ensures in
    subst (Collects found) (ap (λ n. part_defects (single 1 (same n 0))) count ∙ sym (orphan_part image)) collects)
    c.single_defects.ensures
