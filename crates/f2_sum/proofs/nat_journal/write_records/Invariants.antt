use Rattle.std.proofs.Common.{◌≡◌, length, map, take}
use Rattle.std.specs.Prelude.{All}
use Rattle.f2_bytes.specs.Journal.{nat_record_bytes}
use Rattle.f2_sum.specs.Records.{nat_record, FitsNatRecord}
use Rattle.f2_sum.proofs.Areas.{area_so_far}
use Rattle.f2_sum.proofs.Fields.{nat_record_width}
use Rattle.f2_sum.proofs.nat_journal.write_records.Given as goal

-- the records so far stand in the area, and fit it
abbrev pub invariant-loop-k : goal.invariant-loop-k
invariant-loop-k l =
    (l.area ≡ area_so_far nat_record_bytes 13 FitsNatRecord nat_record_width (length l.records) (map nat_record l.records) l.k)
    × All FitsNatRecord (take l.k (map nat_record l.records))
