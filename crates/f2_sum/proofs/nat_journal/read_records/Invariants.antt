use Rattle.std.proofs.Common.{◌≡◌, ◌+◌, ◌*◌, length, map, take}
use Rattle.std.specs.List.{range_with_len}
use Rattle.f2_bytes.specs.Journal.{nat_record_at}
use Rattle.f2_sum.specs.Records.{nat_record}
use Rattle.f2_sum.proofs.nat_journal.read_records.Given as goal

-- the records so far
abbrev pub invariant-loop-k : goal.invariant-loop-k
invariant-loop-k l =
    (length l.records ≡ 38) × (map nat_record (take l.k l.records) ≡ map (λ k. nat_record_at l.area (2 + 13 * k)) (range_with_len 0 l.k))
