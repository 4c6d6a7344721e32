use Rattle.std.proofs.Common.{◌≡◌}
use Rattle.f2_disk.specs.Fakes.{memory_of}
use Rattle.f2_measure.proofs.chains.disk.Given as goal

abbrev pub invariant-loop-number : goal.invariant-loop-number
invariant-loop-number l = (memory_of l.disk).blocks ≡ 266240
