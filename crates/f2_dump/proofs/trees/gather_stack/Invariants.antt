use Rattle.std.proofs.Common.{◌≡◌, ◌≤◌, ◌+◌, Some, length}
use Rattle.f2_bytes.specs.Bytes.{Image}
use Rattle.f2_disk.specs.Disk.{Reads, Goes}
use Rattle.f2_view.specs.Mounted.{IsMountOf}
use Rattle.f2_dump.specs.declared.gathering.TheConstants.{PIECE}
use Rattle.f2_dump.specs.declared.printing.TheConstants.{LINE}
use Rattle.f2_dump.specs.Stacks.{stack_lines, stack_weight}
use Rattle.f2_dump.proofs.StackLines.{Walks}
use Rattle.f2_dump.proofs.trees.gather_stack.Given as goal

-- the lines so far, and those that are left
abbrev pub invariant-loop-p : goal.invariant-loop-p
invariant-loop-p g l = record {
  lines : (image : Image) → (g.D.Disk.state l.initial.d).told ≡ Some image → IsMountOf image l.initial.m
      → Walks (stack_lines image l.initial.stack.items) (stack_lines image l.stack.items) l.initial.text.items l.text.items (g.O.Sink.told l.initial.o) (g.O.Sink.told l.o);
  room : length l.text.items + LINE ≤ PIECE;
  sink : g.O.Sink.faults l.initial.o ≤ g.O.Sink.faults l.o;
  mount : l.m ≡ l.initial.m;
  reads : Reads (g.D.Disk.state l.initial.d) (g.D.Disk.state l.d);
  goes : Goes (g.D.Disk.state l.initial.d) (g.D.Disk.state l.d);
}

abbrev pub decreases-loop-p : goal.decreases-loop-p
decreases-loop-p g l = stack_weight l.stack.items
