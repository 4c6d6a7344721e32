use Rattle.std.proofs.Common.{[], sym, subst}
use Rattle.f2_bytes.specs.Check.{part_defects}
use Rattle.f2_defects.specs.Collected.{Collects}
use Rattle.f2_survey.specs.Parts.{part_in}
use Rattle.f2_survey.proofs.PartDefects.{first_parts-one, part_more}
use Rattle.f2_survey.proofs.RuleParts.{address_parts_all}
use Rattle.f2_rules.proofs.SlotParts.{outside-part}
use Rattle.f2_rules.proofs.later_rules.address_defects.Goals as goal

pub returns-clause-decides : goal.returns-clause-decides
returns-clause-decides g c = λ image told of meets work.
    let outside = subst (Collects c.args.work.now.kept.addresses.outside) (outside-part image) work.kept.addresses.outside in
    let first = subst (Collects c.append.new.self) (sym (first_parts-one image 4)) (c.in_ok-append.ensures.appends [] (part_defects (part_in image 4 1)) c.new-c.ensures.none outside) in
    subst (Collects c.append-2.new.self) (address_parts_all image)
    (part_more image 4 1 c.append.new.self c.in_ok-twice.twice c.append-2.new.self first (c.in_ok-twice.ensures.repeats image told of meets work) c.in_ok-append-2.ensures.appends)
