use Rattle.std.proofs.Common.{subst, arith}
use Rattle.std.proofs.lemmas.Result.{IfOk-weaker}
use Rattle.f2_defects.specs.Collected.{Collects}
use Rattle.f2_rules.proofs.Gathered.{gathered}
use Rattle.f2_survey.proofs.RuleParts.{link_parts_all}
use Rattle.f2_rules.proofs.later_rules.link_defects.Goals as goal

pub returns : goal.returns
returns c = λ told.
    IfOk-weaker c.three_parts.result _ _
    (λ found collects image is of before work.
    let read = gathered image c.args.work.now.kept work.kept (before 4 (omega arith) (omega arith)) in
    subst (Collects found) (link_parts_all image)
    (collects image 11 (c.in_ok-names.ensures image read) (c.in_ok-loops.ensures image work.nodes read) (c.in_ok-root.ensures image read)))
    c.three_parts.ensures
