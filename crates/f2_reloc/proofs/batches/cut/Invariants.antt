use Rattle.std.proofs.Common.{◌≡◌, ◌+◌, ◌-◌, ◌≤◌, All, Some, length, map, true}
use Rattle.std.specs.List.{range_with_len}
use Rattle.f2_bytes.specs.Bytes.{Image}
use Rattle.f2_bytes.specs.Check.{is_checked}
use Rattle.f2_bytes.specs.Defragment.{placement, part_in, defrag_batches}
use Rattle.f2_bytes.specs.NodeAddressTable.{nid_limit}
use Rattle.f2_bytes.specs.Superblock.{layout}
use Rattle.f2_disk.specs.Disk.{Reads, Goes}
use Rattle.f2_view.specs.Mounted.{layout_in, IsMountOf}
use Rattle.f2_reloc.specs.Emptying.{end_of, IsWithin, IsCutting}
use Rattle.f2_reloc.proofs.batches.cut.Given as goal

-- the batches of the first segments, and what the disk did
abbrev pub invariant-loop-segno : goal.invariant-loop-segno
invariant-loop-segno g l = record {
  mount : l.m ≡ l.initial.m;
  reads : Reads (g.D.Disk.state l.initial.d) (g.D.Disk.state l.d);
  goes : Goes (g.D.Disk.state l.initial.d) (g.D.Disk.state l.d);
  next : l.cutting.batch.end ≡ l.segno;
  order : l.cutting.batch.first ≤ l.segno;
  held : l.cutting.held ≤ 4096;
  within : All (IsWithin (layout_in l.initial.m)) l.cutting.cut.items;
  count : length l.cutting.cut.items + l.first ≤ l.segno;
  cut : (image : Image) → (g.D.Disk.state l.initial.d).told ≡ Some image → IsMountOf image l.initial.m → is_checked image ≡ true
      → IsCutting (layout_in l.initial.m) l.range (nid_limit (layout image)) (placement image) (map (part_in (layout_in l.initial.m) l.range.start (end_of l.range)) (range_with_len l.segno (l.last + 1 - l.segno)))
      (defrag_batches image l.range.start (end_of l.range)) l.cutting.cut.items l.cutting.batch l.cutting.held;
}
