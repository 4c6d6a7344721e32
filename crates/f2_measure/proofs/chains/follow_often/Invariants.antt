use Rattle.std.proofs.Common.{◌≡◌}
use Rattle.f2_disk.specs.Fakes.{memory_of}
use Rattle.f2_measure.proofs.chains.follow_often.Given as goal

abbrev pub invariant-loop : goal.invariant-loop
invariant-loop l = (memory_of l.disk).blocks ≡ 266240
