use Rattle.std.proofs.Common.{◌≡◌, ◌-◌, length}
use Rattle.f2_disk.specs.Disk.{Reads, Goes}
use Rattle.f2_commit.proofs.LeftSegments.{LeftSoFar}
use Rattle.f2_commit.proofs.moved_segments.push_left.Given as goal

-- the entries of the segments of the first addresses
abbrev pub invariant-loop-from : goal.invariant-loop-from
invariant-loop-from g l = record {
  reads : Reads (g.D.Disk.state l.fn.d) (g.D.Disk.state l.d);
  goes : Goes (g.D.Disk.state l.fn.d) (g.D.Disk.state l.d);
  mount : l.m ≡ l.fn.m;
  entries : LeftSoFar (g.D.Disk.state l.fn.d).told l.fn.m l.addresses l.from l.freed l.fn.into.items l.into.items;
}

abbrev pub decreases-loop-from : goal.decreases-loop-from
decreases-loop-from g l = length l.addresses - l.from
