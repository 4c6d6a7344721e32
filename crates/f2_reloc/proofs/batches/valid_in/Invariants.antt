use Rattle.std.proofs.Common.{◌≡◌, Some}
use Rattle.f2_bytes.specs.Bytes.{Image}
use Rattle.f2_disk.specs.Disk.{Reads, Goes}
use Rattle.f2_view.specs.Mounted.{layout_in, IsMountOf}
use Rattle.f2_reloc.specs.Emptying.{parts_between, valid_among}
use Rattle.f2_reloc.proofs.Parts.{HasGrown}
use Rattle.f2_reloc.proofs.batches.valid_in.Given as goal

-- those of the first segments, and what the disk did
abbrev pub invariant-loop-segno : goal.invariant-loop-segno
invariant-loop-segno g l = record {
  mount : l.m ≡ l.initial.m;
  reads : Reads (g.D.Disk.state l.initial.d) (g.D.Disk.state l.d);
  goes : Goes (g.D.Disk.state l.initial.d) (g.D.Disk.state l.d);
  grown : HasGrown (layout_in l.initial.m) l.fn.batch.first l.segno l.addresses.items;
  valid : (image : Image) → (g.D.Disk.state l.initial.d).told ≡ Some image → IsMountOf image l.initial.m
      → l.addresses.items ≡ valid_among image (parts_between (layout_in l.initial.m) l.range l.fn.batch.first l.segno);
}
