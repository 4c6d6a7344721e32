use Rattle.std.proofs.Common.{◌≤◌, ◌+◌, length}
use Rattle.f2_dump.specs.declared.gathering.TheConstants.{PIECE}
use Rattle.f2_dump.specs.declared.printing.TheConstants.{LINE}
use Rattle.f2_dump.specs.Trees.{indent}
use Rattle.f2_dump.proofs.Sending.{Holds}
use Rattle.f2_dump.proofs.printing.gather_indent.Given as goal

-- the spaces so far
abbrev pub invariant-loop : goal.invariant-loop
invariant-loop g l = record {
  lines : Holds (indent l.counter) l.initial.text.items l.text.items (g.O.Sink.told l.initial.o) (g.O.Sink.told l.o);
  room : length l.text.items + LINE ≤ PIECE;
  sink : g.O.Sink.faults l.initial.o ≤ g.O.Sink.faults l.o;
}
