use Rattle.f2_survey.specs.Parts.{part_in}
use Rattle.f2_survey.proofs.NodeComparisons.{nothing_compared}
use Rattle.f2_survey.proofs.rule_3_nodes.NodeDefects.new.Goals as goal

pub returns-clause-none : goal.returns-clause-none
returns-clause-none c = λ image. record {
  address = nothing_compared (part_in image 3 1) c.new.result c.new.ensures.none;
  number = nothing_compared (part_in image 3 2) c.new-2.result c.new-2.ensures.none;
  file = nothing_compared (part_in image 3 3) c.new-3.result c.new-3.ensures.none;
  offset = nothing_compared (part_in image 3 4) c.new-4.result c.new-4.ensures.none;
  mode = nothing_compared (part_in image 3 5) c.new-5.result c.new-5.ensures.none;
}
