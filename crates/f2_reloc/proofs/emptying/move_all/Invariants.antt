use Rattle.std.proofs.Common.{◌≡◌, ◌+◌, ◌*◌, ◌≤◌, Bool, false, Some, ℕ, length, map}
use Rattle.std.specs.Prelude.{drop}
use Rattle.f2_bytes.specs.Bytes.{Image}
use Rattle.f2_bytes.specs.Checkpoint.{checkpoint_ver}
use Rattle.f2_bytes.specs.Defragment.{defrag_targets, defrag_need}
use Rattle.f2_commit.specs.Moves.{HasSameFiles}
use Rattle.f2_disk.specs.Disk.{Goes, LeavesOnly}
use Rattle.f2_view.specs.Mounted.{layout_in, IsMountOf}
use Rattle.f2_reloc.specs.Emptying.{part_of, end_of, IsOnWay}
use Rattle.f2_reloc.proofs.emptying.move_all.Given as goal

-- the batches so far moved, and what the disk did
abbrev pub invariant-loop-batch : goal.invariant-loop-batch
invariant-loop-batch g l = record {
  layout : layout_in l.m ≡ layout_in l.initial.m;
  version : checkpoint_ver l.m.chosen.head ≤ checkpoint_ver l.initial.m.chosen.head + 2 * l.batch-index;
  taken : l.taken ≤ length l.targets;
  blocks : l.moved.blocks ≤ 4096 * l.batch-index;
  batches : l.moved.batches ≤ l.batch-index;
  goes : Goes (g.D.Disk.state l.initial.d) (g.D.Disk.state l.d);
  calm : (g.D.Disk.state l.initial.d).pending ≡ false → (g.D.Disk.state l.d).pending ≡ false;
  way : (image : Image) → (g.D.Disk.state l.initial.d).told ≡ Some image
      → (now : Image) × ((g.D.Disk.state l.d).told ≡ Some now) × IsMountOf now l.m × HasSameFiles image now
      × ((target : ℕ) (down : Bool) → l.targets ≡ defrag_targets image l.range.start (end_of l.range) target down → defrag_need image l.range.start (end_of l.range) ≤ length l.targets
      → IsOnWay image l.range.start (end_of l.range) target down (drop l.taken l.targets) l.moved (map (part_of (layout_in l.initial.m) l.range) (drop l.batch-index l.batches)) now);
  any_moment : (g.D.Disk.state l.initial.d).pending ≡ false → (image : Image) → (g.D.Disk.state l.initial.d).told ≡ Some image
      → LeavesOnly (g.D.Disk.state l.initial.d) (g.D.Disk.state l.d) (HasSameFiles image);
}
