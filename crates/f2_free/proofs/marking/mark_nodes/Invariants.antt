use Rattle.std.proofs.Common.{◌≡◌, Some}
use Rattle.std.specs.List.{list_any}
use Rattle.f2_bytes.specs.Bytes.{Image, numbers_below}
use Rattle.f2_free.specs.NodePlaces.{HasFound, uses}
use Rattle.f2_free.specs.SegmentMarks.{MarksBlocks, KeepsMarks}
use Rattle.f2_disk.specs.Disk.{Reads, Goes}
use Rattle.f2_view.specs.Mounted.{IsMountOf}
use Rattle.f2_free.proofs.marking.mark_nodes.Given as goal

-- the nodes with lesser numbers, and what the disk did
abbrev pub invariant-loop-nid : goal.invariant-loop-nid
invariant-loop-nid g l = record {
  reads : Reads (g.D.Disk.state l.initial.d) (g.D.Disk.state l.d);
  goes : Goes (g.D.Disk.state l.initial.d) (g.D.Disk.state l.d);
  keeps : KeepsMarks l.initial.marks l.marks;
  marks : (image : Image) → (g.D.Disk.state l.initial.d).told ≡ Some image → IsMountOf image l.m → HasFound image l.entries
      → MarksBlocks l.initial.marks l.marks (λ a. list_any (λ nid. uses image nid a) (numbers_below l.nid));
}
