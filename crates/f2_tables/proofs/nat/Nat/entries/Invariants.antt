use Rattle.std.proofs.Common.{◌≡◌, ◌*◌, Some, map, length}
use Rattle.f2_bytes.specs.Bytes.{Image, numbers_below}
use Rattle.f2_disk.specs.Disk.{Reads, Goes}
use Rattle.f2_sum.specs.Records.{nat_entry}
use Rattle.f2_tables.specs.Tables.{nat_in}
use Rattle.f2_tables.proofs.nat.Nat.entries.Given as goal

-- the entries of the first blocks, and what the disk did
abbrev pub invariant-loop-k : goal.invariant-loop-k
invariant-loop-k g l = record {
  reads : Reads (g.D.Disk.state l.initial.d) (g.D.Disk.state l.d);
  goes : Goes (g.D.Disk.state l.initial.d) (g.D.Disk.state l.d);
  entries : (image : Image) → (g.D.Disk.state l.initial.d).told ≡ Some image → map nat_entry l.entries.items ≡ map (nat_in l.fn.self image) (numbers_below (455 * l.k));
  length : length l.entries.items ≡ 455 * l.k;
}
