use Rattle.std.proofs.Common.{arith}
use Rattle.f2_items.proofs.Climbs.{settled_all}
use Rattle.f2_items.proofs.ancestors.own_ancestors.Goals as goal

pub returns-clause-own : goal.returns-clause-own
returns-clause-own c i h =
    settled_all c.args.parents.now c.loop-start.seen.items c.loop-start.settled.items c.loop-start.own.items c.loop-start.invariant.3 c.requires i h
    (c.loop-start.invariant.4 i (omega (arith, h, c.loop-start-test.false)))
