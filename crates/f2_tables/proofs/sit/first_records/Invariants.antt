use Rattle.std.proofs.Common.{◌≡◌, ℕ, Some, take}
use Rattle.std.specs.Prelude.{option_map}
use Rattle.f2_bytes.specs.Journal.{SitEntry, FitsSitEntry}
use Rattle.f2_bytes.specs.SegmentTable.{sit_journal_entry}
use Rattle.f2_sum.specs.Records.{sit_entry}
use Rattle.f2_tables.specs.Tables.{value_at}
use Rattle.f2_tables.proofs.sit.first_records.Given as goal

-- the records so far, each of which fits its bytes
abbrev pub invariant-loop-k : goal.invariant-loop-k
invariant-loop-k l = record {
  records : (n : ℕ) → option_map sit_entry (value_at l.newer n) ≡ sit_journal_entry (take l.k l.j) n;
  fits : (n : ℕ) (e : SitEntry) → option_map sit_entry (value_at l.newer n) ≡ Some e → FitsSitEntry e;
}
