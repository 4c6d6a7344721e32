use Rattle.std.proofs.Common.{sym, subst}
use Rattle.f2_defects.specs.Collected.{Collects}
use Rattle.f2_survey.proofs.RuleParts.{count_parts_all}
use Rattle.f2_survey.proofs.PartDefects.{first_parts-one, part_more}
use Rattle.f2_areas.proofs.rule_7_counts.check_counts.Goals as goal

pub returns : goal.returns
returns c = λ image of table totals.
    let one = subst (Collects c.in_ok-c.c) (sym (first_parts-one image 7)) (c.in_ok-c.ensures image of totals) in
    let two = part_more image 7 1 c.in_ok-c.c c.in_ok-node_defects.field-0 c.append.new.self one (c.in_ok-node_defects.ensures image of totals) c.in_ok-append.ensures.appends in
    let three = part_more image 7 2 c.append.new.self c.in_ok-inode_defects.field-0 c.append-2.new.self two (c.in_ok-inode_defects.ensures image of totals) c.in_ok-append-2.ensures.appends in
    let four = part_more image 7 3 c.append-2.new.self c.in_ok-free_defects.field-0 c.append-3.new.self three (c.in_ok-free_defects.ensures image of table) c.in_ok-append-3.ensures.appends in
    subst (Collects c.append-3.new.self) (count_parts_all image) four
