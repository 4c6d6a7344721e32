use Rattle.std.proofs.Common.{◌≡◌, ◌≤◌, Some, length}
use Rattle.f2_bytes.specs.Bytes.{Image}
use Rattle.f2_disk.specs.Disk.{Reads, Goes}
use Rattle.f2_view.specs.Mounted.{IsMountOf}
use Rattle.f2_dump.specs.declared.gathering.TheConstants.{FULL}
use Rattle.f2_dump.specs.Text.{lines_between, summary_lines}
use Rattle.f2_dump.proofs.Sending.{Holds}
use Rattle.f2_dump.proofs.summaries.gather_range.Given as goal

-- the lines so far, and what the disk did
abbrev pub invariant-loop-segment : goal.invariant-loop-segment
invariant-loop-segment g l = record {
  lines : (image : Image) → (g.D.Disk.state l.initial.d).told ≡ Some image → IsMountOf image l.initial.m
      → Holds (lines_between (summary_lines image) l.fn.first l.segment) l.initial.text.items l.text.items (g.O.Sink.told l.initial.o) (g.O.Sink.told l.o);
  room : length l.text.items ≤ FULL;
  sink : g.O.Sink.faults l.initial.o ≤ g.O.Sink.faults l.o;
  mount : l.m ≡ l.initial.m;
  reads : Reads (g.D.Disk.state l.initial.d) (g.D.Disk.state l.d);
  goes : Goes (g.D.Disk.state l.initial.d) (g.D.Disk.state l.d);
}
