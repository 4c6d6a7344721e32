use Rattle.std.proofs.Common.{◌≡◌, take, Some}
use Rattle.f2_bytes.specs.Bytes.{Image}
use Rattle.f2_disk.specs.Disk.{Goes}
use Rattle.f2_change.specs.CommitSteps.{WritesOnly}
use Rattle.f2_change.specs.Writes.{with_writes}
use Rattle.f2_change.proofs.committing.write_blocks.Given as goal

abbrev pub invariant-loop-w : goal.invariant-loop-w
invariant-loop-w g l = record {
  done : (image : Image) → (g.D.Disk.state l.fn.d).told ≡ Some image → (g.D.Disk.state l.d).told ≡ Some (with_writes image (take l.w-index l.blocks));
  only : WritesOnly l.blocks (g.D.Disk.state l.fn.d) (g.D.Disk.state l.d);
  goes : Goes (g.D.Disk.state l.fn.d) (g.D.Disk.state l.d);
}
