use Rattle.std.proofs.Common.{◌≡◌, ◌+◌, ◌*◌, length, map, take}
use Rattle.std.specs.Prelude.{All}
use Rattle.std.specs.List.{range_with_len}
use Rattle.f2_bytes.specs.Journal.{sit_record_at, FitsSitEntry}
use Rattle.f2_sum.specs.Records.{sit_record}
use Rattle.f2_sum.proofs.sit_journal.read_records.Given as goal

-- the records so far
abbrev pub invariant-loop-k : goal.invariant-loop-k
invariant-loop-k l =
    (length l.records ≡ 6) × (map sit_record (take l.k l.records) ≡ map (λ k. sit_record_at l.area (2 + 78 * k)) (range_with_len 0 l.k))
    × All (λ r. FitsSitEntry r.entry) (map sit_record (take l.k l.records))
