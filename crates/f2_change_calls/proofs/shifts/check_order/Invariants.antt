use Rattle.std.proofs.Common.{◌≡◌, ◌<◌, ◌≤◌, take}
use Rattle.std.specs.List.Sorted.{IsStrictlyIncreasing}
use Rattle.f2_change_calls.proofs.shifts.check_order.Given as goal

abbrev pub invariant-loop-k : goal.invariant-loop-k
invariant-loop-k l = IsStrictlyIncreasing (take l.k l.addresses)
