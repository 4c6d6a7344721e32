use Rattle.std.proofs.Common.{sym, ap, ◌∙◌, subst}
use Rattle.std.proofs.lemmas.Result.{IfOk-weaker}
use Rattle.f2_bytes.specs.Checkpoint.{valid_node_count}
use Rattle.f2_bytes.specs.Check.{part_defects, same, single}
use Rattle.f2_defects.specs.Collected.{Collects}
use Rattle.f2_areas.proofs.CountParts.{node_part}
use Rattle.f2_view.proofs.TableReadings.{own_head}
use Rattle.f2_areas.proofs.rule_7_counts.node_defects.Goals as goal

pub returns : goal.returns
returns c =
    IfOk-weaker c.single_defects.result _ _
    (λ found collects image of totals.
    let counted = c.said-counted.ensures ∙ ap valid_node_count (own_head image c.args.m.now of) in
    subst (Collects found) ((λ i. part_defects (single 2 (same (counted i) (totals.nodes i)))) ∙ sym (node_part image)) collects)
    c.single_defects.ensures
