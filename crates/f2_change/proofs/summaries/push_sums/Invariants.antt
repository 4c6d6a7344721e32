use Rattle.std.proofs.Common.{◌≡◌, ◌++◌, take}
use Rattle.f2_change.specs.Change.{stored_sums}
use Rattle.f2_change.proofs.summaries.push_sums.Given as goal

abbrev pub invariant-loop-w : goal.invariant-loop-w
invariant-loop-w l = l.into.items ≡ l.fn.into.items ++ stored_sums l.l l.logs (take l.w-index l.sums)
