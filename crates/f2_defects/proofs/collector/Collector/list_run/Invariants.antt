use Rattle.std.proofs.Common.{◌≡◌, ◌-◌}
use Rattle.f2_defects.specs.Collected.{Runs}
use Rattle.f2_defects.proofs.collector.Collector.list_run.Given as goal

-- the comparisons before b were taken
abbrev pub invariant-loop-b : goal.invariant-loop-b
invariant-loop-b l = record {
  part : l.self.part ≡ l.fn.self.part;
  runs : Runs l.fn.self l.self l.a l.from (l.b - l.from) l.found l.wanted;
}
