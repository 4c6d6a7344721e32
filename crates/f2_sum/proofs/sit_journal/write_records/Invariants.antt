use Rattle.std.proofs.Common.{◌≡◌, length, map, take}
use Rattle.std.specs.Prelude.{All}
use Rattle.f2_bytes.specs.Journal.{sit_record_bytes}
use Rattle.f2_sum.specs.Records.{sit_record, FitsSitRecord}
use Rattle.f2_sum.proofs.Areas.{area_so_far}
use Rattle.f2_sum.proofs.Fields.{sit_record_width}
use Rattle.f2_sum.proofs.sit_journal.write_records.Given as goal

-- the records so far stand in the area, and fit it
abbrev pub invariant-loop-k : goal.invariant-loop-k
invariant-loop-k l =
    (l.area ≡ area_so_far sit_record_bytes 78 FitsSitRecord sit_record_width (length l.records) (map sit_record l.records) l.k)
    × All FitsSitRecord (take l.k (map sit_record l.records))
