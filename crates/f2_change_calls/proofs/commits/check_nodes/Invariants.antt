use Rattle.std.proofs.Common.{◌≡◌, ◌<◌, true, All, take}
use Rattle.f2_change_calls.proofs.commits.check_nodes.Given as goal

abbrev pub invariant-loop-w : goal.invariant-loop-w
invariant-loop-w l = All (λ w. w.0 < l.limit) (take l.w-index l.nat)
