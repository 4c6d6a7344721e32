use Rattle.std.proofs.Common.{◌-◌, ◌<◌, ◌≡◌, ◌≤◌, Some, length}
use Rattle.f2_bytes.specs.Bytes.{Image}
use Rattle.f2_bytes.specs.NodeAddressTable.{nat, image_nat_entry}
use Rattle.f2_disk.specs.Disk.{Reads, Goes}
use Rattle.f2_view.specs.Mounted.{IsMountOf}
use Rattle.f2_dump.specs.declared.gathering.TheConstants.{FULL}
use Rattle.f2_dump.specs.Text.{lines_between, node_line}
use Rattle.f2_dump.proofs.Sending.{Holds}
use Rattle.f2_dump.proofs.tables.gather_nodes.Given as goal

-- the lines so far, and what the disk did
abbrev pub invariant-loop-nid : goal.invariant-loop-nid
invariant-loop-nid g l = record {
  lines : (image : Image) → (g.D.Disk.state l.initial.d).told ≡ Some image → IsMountOf image l.initial.m
      → Holds (lines_between (node_line image) l.fn.first l.nid) l.initial.text.items l.text.items (g.O.Sink.told l.initial.o) (g.O.Sink.told l.o);
  later : l.fn.first ≤ l.nid;
  within : l.nid ≤ l.end;
  node : (image : Image) → (g.D.Disk.state l.initial.d).told ≡ Some image → IsMountOf image l.initial.m
      → l.nid < l.end → nat image l.nid ≡ Some (image_nat_entry image l.nid);
  room : length l.text.items ≤ FULL;
  sink : g.O.Sink.faults l.initial.o ≤ g.O.Sink.faults l.o;
  mount : l.m ≡ l.initial.m;
  reads : Reads (g.D.Disk.state l.initial.d) (g.D.Disk.state l.d);
  goes : Goes (g.D.Disk.state l.initial.d) (g.D.Disk.state l.d);
}

abbrev pub decreases-loop-nid : goal.decreases-loop-nid
decreases-loop-nid g l = l.end - l.nid
