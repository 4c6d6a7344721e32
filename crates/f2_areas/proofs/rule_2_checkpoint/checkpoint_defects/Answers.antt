use Rattle.std.proofs.Common.{sym, subst}
use Rattle.f2_defects.specs.Collected.{Collects}
use Rattle.f2_survey.proofs.RuleParts.{checkpoint_parts_all}
use Rattle.f2_survey.proofs.PartDefects.{first_parts-one, part_more}
use Rattle.f2_areas.proofs.rule_2_checkpoint.checkpoint_defects.Goals as goal

pub returns-clause-finds : goal.returns-clause-finds
returns-clause-finds g c = λ image told of.
    let one = subst (Collects c.in_ok-c.c) (sym (first_parts-one image 2)) (c.in_ok-c.ensures image of) in
    let two = part_more image 2 1 c.in_ok-c.c c.in_ok-later_defects.field-0 c.append.new.self one (c.in_ok-later_defects.ensures.finds image told of) c.in_ok-append.ensures.appends in
    let three = part_more image 2 2 c.append.new.self c.in_ok-flag_defects.field-0 c.append-2.new.self two (c.in_ok-flag_defects.ensures image of) c.in_ok-append-2.ensures.appends in
    subst (Collects c.append-2.new.self) (checkpoint_parts_all image) three
