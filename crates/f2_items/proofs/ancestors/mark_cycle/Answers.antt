use Rattle.std.proofs.Common.{rules}
use Rattle.f2_items.specs.Ancestors.{parent_in}
use Rattle.f2_items.proofs.Climbs.{cycle_of_climb}
use Rattle.f2_items.proofs.ancestors.mark_cycle.Goals as goal

pub returns : goal.returns
returns c =
    cycle_of_climb (parent_in c.args.parents.now) c.args.settled.now c.args.own.now c.args.stop c.climb.new.marks c.climb.result
    (search rules) (search rules) c.climb.ensures.climbed
