use Rattle.std.proofs.Common.{sym, ap, ◌∙◌, subst}
use Rattle.std.proofs.lemmas.Result.{IfOk-weaker}
use Rattle.f2_bytes.specs.Checkpoint.{free_segment_count}
use Rattle.f2_bytes.specs.Check.{part_defects, same, single}
use Rattle.f2_defects.specs.Collected.{Collects}
use Rattle.f2_areas.proofs.CountParts.{free_part}
use Rattle.f2_view.proofs.TableReadings.{own_head}
use Rattle.f2_areas.proofs.rule_7_counts.free_defects.Goals as goal

pub returns : goal.returns
returns c =
    IfOk-weaker c.single_defects.result _ _
    (λ found collects image of table.
    let counted = c.said-counted.ensures ∙ ap free_segment_count (own_head image c.args.m.now of) in
    let free = c.from.ensures ∙ c.count_free-free.ensures image of table in
    subst (Collects found) ((λ i. part_defects (single 4 (same (counted i) (free i)))) ∙ sym (free_part image)) collects)
    c.single_defects.ensures
