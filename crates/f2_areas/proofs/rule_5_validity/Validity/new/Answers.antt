use Rattle.std.proofs.Common.{◌∙◌}
use Rattle.f2_survey.specs.Parts.{part_in}
use Rattle.f2_areas.proofs.ValidityParts.{marks-number, counts-number, kinds-number}
use Rattle.f2_areas.proofs.Walking.{walk-none}
use Rattle.f2_areas.proofs.rule_5_validity.Validity.new.Goals as goal

pub returns-clause-marks : goal.returns-clause-marks
returns-clause-marks c = λ image. walk-none (part_in image 5 1) c.new.result (c.new.ensures.part ∙ marks-number image) c.new.ensures.none

pub returns-clause-counts : goal.returns-clause-counts
returns-clause-counts c = λ image. walk-none (part_in image 5 2) c.new-2.result (c.new-2.ensures.part ∙ counts-number image) c.new-2.ensures.none

pub returns-clause-kinds : goal.returns-clause-kinds
returns-clause-kinds c = λ image. walk-none (part_in image 5 3) c.new-3.result (c.new-3.ensures.part ∙ kinds-number image) c.new-3.ensures.none
