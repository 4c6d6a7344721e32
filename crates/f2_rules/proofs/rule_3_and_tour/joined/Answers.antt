use Rattle.std.proofs.Common.{subst}
use Rattle.f2_defects.specs.Collected.{Collects}
use Rattle.f2_survey.proofs.PartDefects.{part_more}
use Rattle.f2_survey.proofs.RuleParts.{node_parts_all}
use Rattle.f2_rules.proofs.rule_3_and_tour.joined.Goals as goal

pub returns : goal.returns
returns c = λ image first offsets times.
    let six = part_more image 3 5 c.args.first c.args.toured.now.offsets c.append.new.self first offsets c.in_ok-append.ensures.appends in
    let seven = part_more image 3 6 c.append.new.self c.args.toured.now.times c.append-2.new.self six times c.in_ok-append-2.ensures.appends in
    subst (Collects c.append-2.new.self) (node_parts_all image) seven
