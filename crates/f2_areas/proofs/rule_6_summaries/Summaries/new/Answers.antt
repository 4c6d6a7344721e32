use Rattle.std.proofs.Common.{◌∙◌}
use Rattle.f2_survey.specs.Parts.{part_in}
use Rattle.f2_areas.proofs.SummaryParts.{nids-number, places-number, types-number}
use Rattle.f2_areas.proofs.Walking.{walk-none}
use Rattle.f2_areas.proofs.rule_6_summaries.Summaries.new.Goals as goal

pub returns-clause-nids : goal.returns-clause-nids
returns-clause-nids c = λ image. walk-none (part_in image 6 1) c.new.result (c.new.ensures.part ∙ nids-number image) c.new.ensures.none

pub returns-clause-places : goal.returns-clause-places
returns-clause-places c = λ image. walk-none (part_in image 6 2) c.new-2.result (c.new-2.ensures.part ∙ places-number image) c.new-2.ensures.none

pub returns-clause-types : goal.returns-clause-types
returns-clause-types c = λ image. walk-none (part_in image 6 3) c.new-3.result (c.new-3.ensures.part ∙ types-number image) c.new-3.ensures.none
