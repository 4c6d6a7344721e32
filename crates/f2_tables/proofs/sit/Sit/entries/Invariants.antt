use Rattle.std.proofs.Common.{◌≡◌, ◌*◌, Some, map, min, length, All}
use Rattle.f2_bytes.specs.Bytes.{Image, numbers_below}
use Rattle.f2_bytes.specs.Journal.{FitsSitEntry}
use Rattle.f2_disk.specs.Disk.{Reads, Goes}
use Rattle.f2_sum.specs.Records.{sit_entry}
use Rattle.f2_tables.specs.Tables.{sit_in}
use Rattle.f2_tables.proofs.sit.Sit.entries.Given as goal

-- the entries of the first blocks, and what the disk did
abbrev pub invariant-loop-k : goal.invariant-loop-k
invariant-loop-k g l = record {
  reads : Reads (g.D.Disk.state l.initial.d) (g.D.Disk.state l.d);
  goes : Goes (g.D.Disk.state l.initial.d) (g.D.Disk.state l.d);
  entries : (image : Image) → (g.D.Disk.state l.initial.d).told ≡ Some image → map sit_entry l.entries.items ≡ map (sit_in l.fn.self image) (numbers_below (min l.segments (55 * l.k)));
  length : length l.entries.items ≡ min l.segments (55 * l.k);
  fits : All (λ e. FitsSitEntry (sit_entry e)) l.entries.items;
}
