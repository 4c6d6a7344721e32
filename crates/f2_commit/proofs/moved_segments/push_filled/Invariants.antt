use Rattle.std.proofs.Common.{◌≡◌}
use Rattle.f2_disk.specs.Disk.{Reads, Goes}
use Rattle.f2_view.specs.Mounted.{layout_in}
use Rattle.f2_commit.proofs.LeftSegments.{TakenSoFar}
use Rattle.f2_commit.proofs.moved_segments.push_filled.Given as goal

-- the entries of the first segments
abbrev pub invariant-loop-i : goal.invariant-loop-i
invariant-loop-i g l = record {
  reads : Reads (g.D.Disk.state l.fn.d) (g.D.Disk.state l.d);
  goes : Goes (g.D.Disk.state l.fn.d) (g.D.Disk.state l.d);
  mount : l.m ≡ l.fn.m;
  entries : TakenSoFar (layout_in l.fn.m).segments l.targets l.kind l.blocks l.i l.fn.into.items l.into.items;
}
