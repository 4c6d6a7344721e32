use Rattle.std.proofs.Common.{sym, subst}
use Rattle.f2_defects.specs.Collected.{Collects}
use Rattle.f2_survey.proofs.PartDefects.{part_more}
use Rattle.f2_rules.proofs.PartsMet.{first_parts-none}
use Rattle.f2_rules.proofs.later_rules.three_parts.Goals as goal

pub returns : goal.returns
returns c = λ image rule has_first has_second has_third.
    let none = subst (Collects c.new-c.result) (sym (first_parts-none image rule)) c.new-c.ensures.none in
    let one = part_more image rule 0 c.new-c.result c.args.first.now c.append.new.self none has_first c.in_ok-append.ensures.appends in
    let two = part_more image rule 1 c.append.new.self c.args.second.now c.append-2.new.self one has_second c.in_ok-append-2.ensures.appends in
    part_more image rule 2 c.append-2.new.self c.args.third.now c.append-3.new.self two has_third c.in_ok-append-3.ensures.appends
