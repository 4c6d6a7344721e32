use Rattle.std.proofs.Common.{sym, subst}
use Rattle.f2_defects.specs.Collected.{Collects}
use Rattle.f2_survey.proofs.RuleParts.{log_parts_all}
use Rattle.f2_survey.proofs.PartDefects.{first_parts-one, part_more}
use Rattle.f2_areas.proofs.rule_8_logs.check_logs.Goals as goal

pub returns : goal.returns
returns c = λ image of table.
    let one = subst (Collects c.in_ok-c.c) (sym (first_parts-one image 8)) (c.in_ok-c.ensures image of) in
    let two = part_more image 8 1 c.in_ok-c.c c.in_ok-kind_defects.field-0 c.append.new.self one (c.in_ok-kind_defects.ensures image of table) c.in_ok-append.ensures.appends in
    let three = part_more image 8 2 c.append.new.self c.in_ok-next.next c.append-2.new.self two (c.in_ok-next.ensures.next image of table) c.in_ok-append-2.ensures.appends in
    let four = part_more image 8 3 c.append-2.new.self c.in_ok-next.later c.append-3.new.self three (c.in_ok-next.ensures.later image of table) c.in_ok-append-3.ensures.appends in
    subst (Collects c.append-3.new.self) (log_parts_all image) four
