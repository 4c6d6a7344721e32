use Rattle.std.proofs.Common.{◌≡◌}
use Rattle.f2_disk.specs.Disk.{Goes}
use Rattle.f2_change_calls.proofs.readings.put_readings.Given as goal

-- the mount stays, and the disk keeps its size
abbrev pub invariant-loop : goal.invariant-loop
invariant-loop g l = record {
  mount : l.m ≡ l.initial.m;
  goes : Goes (g.D.Disk.state l.initial.d) (g.D.Disk.state l.d);
}
