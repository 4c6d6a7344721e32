use Rattle.f2_items.specs.Ancestors.{parent_in}
use Rattle.f2_items.proofs.Climbs.{settled_more}
use Rattle.f2_items.proofs.ancestors.settle.Goals as goal

pub returns-clause-after : goal.returns-clause-after
returns-clause-after c =
    settled_more (parent_in c.args.parents.now) _ _ _ _ _ _ c.args.start _ _ c.requires.before
    c.climb-stop.ensures.climbed c.mark_cycle.ensures c.climb.ensures.climbed

pub returns-clause-start : goal.returns-clause-start
returns-clause-start c = c.climb.ensures.climbed.marks.starts

pub returns-clause-kept : goal.returns-clause-kept
returns-clause-kept c = c.climb.ensures.climbed.marks.kept
