use Rattle.std.proofs.Common.{◌≡◌, ◌≢◌, ℕ, ◌*◌, ◌≤◌, ◌<◌, Some}
use Rattle.f2_bytes.specs.Bytes.{Image}
use Rattle.f2_disk.specs.Disk.{Reads, Goes}
use Rattle.f2_tables.specs.Tables.{nat_in}
use Rattle.f2_commit.proofs.free_nids.least_free_nid.Given as goal

-- no free one before block k, and what the disk did
abbrev pub invariant-loop-k : goal.invariant-loop-k
invariant-loop-k g l = record {
  reads : Reads (g.D.Disk.state l.initial.d) (g.D.Disk.state l.d);
  goes : Goes (g.D.Disk.state l.initial.d) (g.D.Disk.state l.d);
  table : l.nat ≡ l.initial.nat;
  none : (image : Image) → (g.D.Disk.state l.initial.d).told ≡ Some image → (n : ℕ) → 4 ≤ n → n < 455 * l.k → (nat_in l.initial.nat image n).address ≢ 0;
}
