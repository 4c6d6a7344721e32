use Rattle.std.proofs.Common.{◌≡◌, ◌-◌, Some}
use Rattle.f2_bytes.specs.Bytes.{Image}
use Rattle.f2_disk.specs.Disk.{Goes}
use Rattle.f2_pack.specs.Written.{written}
use Rattle.f2_change.specs.CommitSteps.{WritesOnly}
use Rattle.f2_change.specs.Writes.{head_address, pack_body, with_writes}
use Rattle.f2_change.proofs.SameBlocks.{row}
use Rattle.f2_change.proofs.committing.write_pack_body.Given as goal

abbrev pub invariant-loop-k : goal.invariant-loop-k
invariant-loop-k g l = record {
  done : (image : Image) → (g.D.Disk.state l.fn.d).told ≡ Some image → (g.D.Disk.state l.d).told ≡ Some (with_writes image (row (head_address l.r) (written l.r.pack) 1 (l.k - 1)));
  only : WritesOnly (pack_body l.r) (g.D.Disk.state l.fn.d) (g.D.Disk.state l.d);
  goes : Goes (g.D.Disk.state l.fn.d) (g.D.Disk.state l.d);
}
