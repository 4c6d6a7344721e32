use Rattle.std.proofs.Common.{sym, subst}
use Rattle.f2_defects.specs.Collected.{Collects}
use Rattle.f2_survey.proofs.PartDefects.{part_more}
use Rattle.f2_rules.proofs.PartsMet.{first_parts-none}
use Rattle.f2_rules.proofs.rule_3_and_tour.survey_defects.Goals as goal

pub returns : goal.returns
returns c = λ image has.
    let none = subst (Collects c.new-c.result) (sym (first_parts-none image 3)) c.new-c.ensures.none in
    let one = part_more image 3 0 c.new-c.result c.args.defects.now.address c.append.new.self none has.address c.in_ok-append.ensures.appends in
    let two = part_more image 3 1 c.append.new.self c.args.defects.now.number c.append-2.new.self one has.number c.in_ok-append-2.ensures.appends in
    let three = part_more image 3 2 c.append-2.new.self c.args.defects.now.file c.append-3.new.self two has.file c.in_ok-append-3.ensures.appends in
    let four = part_more image 3 3 c.append-3.new.self c.args.defects.now.offset c.append-4.new.self three has.offset c.in_ok-append-4.ensures.appends in
    part_more image 3 4 c.append-4.new.self c.args.defects.now.mode c.append-5.new.self four has.mode c.in_ok-append-5.ensures.appends
