use Rattle.std.proofs.Common.{sym, subst, [], ◌∙◌}
use Rattle.f2_bytes.specs.Check.{part_defects}
use Rattle.f2_defects.specs.Collected.{Collects}
use Rattle.f2_survey.specs.Parts.{part_in}
use Rattle.f2_files.proofs.AttributeDefects.{attribute-part}
use Rattle.f2_survey.proofs.PartDefects.{first_parts-one}
use Rattle.f2_survey.proofs.RuleParts.{attribute_parts_all}
use Rattle.f2_rules.proofs.later_rules.attribute_defects.Goals as goal

pub returns : goal.returns
returns c = λ known image told of meets work.
    let found = subst (Collects c.args.work.now.kept.attributes) (attribute-part image) work.kept.attributes.defects in
    subst (Collects c.append.new.self) (sym (first_parts-one image 12) ∙ attribute_parts_all image)
    (c.in_ok-append.ensures.appends [] (part_defects (part_in image 12 1)) c.new-c.ensures.none found)
