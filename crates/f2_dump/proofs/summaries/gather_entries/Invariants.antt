use Rattle.std.proofs.Common.{◌≤◌, length}
use Rattle.std.specs.Prelude.{flat_map}
use Rattle.f2_bytes.specs.Bytes.{numbers_below}
use Rattle.f2_dump.specs.declared.gathering.TheConstants.{FULL}
use Rattle.f2_dump.specs.Text.{entry_line}
use Rattle.f2_dump.proofs.Sending.{Holds}
use Rattle.f2_dump.proofs.summaries.gather_entries.Given as goal

-- the lines so far
abbrev pub invariant-loop-k : goal.invariant-loop-k
invariant-loop-k g l = record {
  lines : Holds (flat_map (entry_line l.fn.segment l.fn.b) (numbers_below l.k)) l.initial.text.items l.text.items (g.O.Sink.told l.initial.o) (g.O.Sink.told l.o);
  room : length l.text.items ≤ FULL;
  sink : g.O.Sink.faults l.initial.o ≤ g.O.Sink.faults l.o;
}
