use Rattle.std.proofs.Common.{rules, get_or, true, length-set, arith, ◌∙◌}
use Rattle.f2_items.specs.Ancestors.{parent_in, IsMarked}
use Rattle.f2_items.proofs.Climbs.{climbing_none, climbing_more, climbed-end, climbed-met, parent_in-none, parent_in-some, nobody_in}
use Rattle.f2_items.proofs.ancestors.climb.Goals as goal

pub loop-marks-init : goal.loop-marks-init
loop-marks-init c = (c.requires.start, c.requires.length, climbing_none (parent_in c.args.parents.now) c.args.marks.now c.args.start)

pub returns-then-up-eq0-clause-climbed : goal.returns-then-up-eq0-clause-climbed
returns-then-up-eq0-clause-climbed c =
    climbed-end (parent_in c.args.parents.now) c.args.marks.now c.loop-marks.marks c.args.start c.loop-marks.at c.loop-marks.invariant.2
    (omega arith) (parent_in-none c.args.parents.now c.loop-marks.at c.if-up-eq0.true)

pub loop-marks-preserved : goal.loop-marks-preserved
loop-marks-preserved c = (
  c.requires.parents c.loop-marks.at c.loop-marks.invariant.0,
  length-set c.loop-marks.marks c.loop-marks.at true ∙ c.loop-marks.invariant.1,
  climbing_more (parent_in c.args.parents.now) c.args.marks.now c.loop-marks.marks c.args.start c.loop-marks.at c.loop-marks.invariant.2
      (omega arith) (get_or c.args.parents.now c.loop-marks.at 0) (parent_in-some c.args.parents.now c.loop-marks.at c.if-up-eq0.false),
)

pub returns-clause-climbed : goal.returns-clause-climbed
returns-clause-climbed c =
    let met : IsMarked c.loop-marks.marks c.loop-marks.at = search rules in
    climbed-met (parent_in c.args.parents.now) c.args.marks.now c.loop-marks.marks c.args.start c.loop-marks.at c.loop-marks.invariant.2
    met (nobody_in c.args.parents.now)
