use Rattle.std.proofs.Common.{arith}
use Rattle.f2_bytes.specs.Check.{least_parent}
use Rattle.f2_items.proofs.ParentLists.{parent_at}
use Rattle.f2_items.proofs.rule_11_loops.parents_below.Goals as goal

pub returns-clause-parents : goal.returns-clause-parents
returns-clause-parents c = λ image names all k low.
    parent_at c.loop-number.parents.items k (least_parent image k) (c.loop-number.invariant.parents image names all k (omega arith))
