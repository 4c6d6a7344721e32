use Rattle.std.proofs.Common.{◌≡◌, take}
use Rattle.f2_change.specs.Change.{given}
use Rattle.f2_change.proofs.given.given.Given as goal

abbrev pub invariant-loop-w : goal.invariant-loop-w
invariant-loop-w l = l.found ≡ given (take l.w-index l.blocks) l.number
