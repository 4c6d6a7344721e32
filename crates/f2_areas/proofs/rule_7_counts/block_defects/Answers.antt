use Rattle.std.proofs.Common.{◌+◌, ◌-◌, ◌^◌, sym, ap, ◌∙◌, subst}
use Rattle.std.proofs.lemmas.Result.{IfOk-weaker}
use Rattle.std.specs.Prelude.{min}
use Rattle.f2_bytes.specs.Checkpoint.{valid_block_count}
use Rattle.f2_bytes.specs.Superblock.{IsInOrder}
use Rattle.f2_bytes.specs.Check.{part_defects, same, single}
use Rattle.f2_defects.specs.Collected.{Collects}
use Rattle.f2_areas.proofs.CountParts.{block_part, block_total-fits}
use Rattle.f2_view.proofs.TableReadings.{own_layout, own_head}
use Rattle.f2_areas.proofs.rule_7_counts.block_defects.Goals as goal

pub returns : goal.returns
returns c =
    IfOk-weaker c.single_defects.result _ _
    (λ found collects image of totals.
    let order = subst IsInOrder (own_layout image c.args.m.now of) c.layout.ensures.kept.in_order in
    let counted = c.said-counted.ensures ∙ ap valid_block_count (own_head image c.args.m.now of) in
    let wanted = c.saturating_add-found.ensures ∙ (λ i. min (totals.nodes i + totals.slots i) (2 ^ 64 - 1)) ∙ block_total-fits image order in
    subst (Collects found) ((λ i. part_defects (single 1 (same (counted i) (wanted i)))) ∙ sym (block_part image)) collects)
    c.single_defects.ensures
