use Rattle.std.proofs.Common.{sym, ◌∙◌, subst}
use Rattle.f2_defects.specs.Collected.{Collects}
use Rattle.f2_survey.proofs.RuleParts.{superblock_parts_all}
use Rattle.f2_survey.proofs.PartDefects.{first_parts-one, part_more}
use Rattle.f2_areas.proofs.rule_1_copies.copy_defects.Goals as goal

pub returns-clause-finds : goal.returns-clause-finds
returns-clause-finds g c = λ image told of.
    let zero = c.in_ok-read.ensures.block image told in
    let one = c.in_ok-read-2.ensures.block image (c.in_ok-read.ensures.reads.told ∙ told) in
    let first = c.in_ok-c.ensures image (sym zero) (sym one) in
    let second = c.in_ok-differing.ensures image (sym zero) (sym one) in
    let both = part_more image 1 1 c.in_ok-c.c c.in_ok-differing.field-0 c.append.new.self (subst (Collects c.in_ok-c.c) (sym (first_parts-one image 1)) first) second c.in_ok-append.ensures.appends in
    subst (Collects c.append.new.self) (superblock_parts_all image) both
