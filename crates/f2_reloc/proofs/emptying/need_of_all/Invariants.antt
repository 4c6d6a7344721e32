use Rattle.std.proofs.Common.{◌≡◌, Some, map, take}
use Rattle.f2_bytes.specs.Bytes.{Image}
use Rattle.f2_bytes.specs.Defragment.{placement, move_need}
use Rattle.f2_bytes.specs.NodeAddressTable.{nid_limit}
use Rattle.f2_bytes.specs.Superblock.{layout}
use Rattle.f2_disk.specs.Disk.{Reads, Goes}
use Rattle.f2_view.specs.Mounted.{layout_in}
use Rattle.f2_reloc.specs.Emptying.{part_of}
use Rattle.f2_reloc.proofs.emptying.need_of_all.Given as goal

-- the need of the first batches, and what the disk did
abbrev pub invariant-loop-batch : goal.invariant-loop-batch
invariant-loop-batch g l = record {
  mount : l.m ≡ l.initial.m;
  reads : Reads (g.D.Disk.state l.initial.d) (g.D.Disk.state l.d);
  goes : Goes (g.D.Disk.state l.initial.d) (g.D.Disk.state l.d);
  need : (image : Image) → (g.D.Disk.state l.initial.d).told ≡ Some image
      → l.sum ≡ move_need (nid_limit (layout image)) (placement image) (map (part_of (layout_in l.initial.m) l.range) (take l.batch-index l.batches));
}
