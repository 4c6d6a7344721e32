use Rattle.std.proofs.Common.{◌≡◌, ◌+◌, ◌-◌, ◌≤◌, ◌++◌, map, length, All}
use Rattle.std.specs.List.{range_with_len}
use Rattle.f2_bytes.specs.Journal.{FitsSitEntry}
use Rattle.f2_sum.specs.Records.{sit_entry}
use Rattle.f2_tables.specs.Tables.{sit_over}
use Rattle.f2_tables.proofs.sit.Sit.push_entries.Given as goal

-- the entries so far, each of which fits its bytes
abbrev pub invariant-loop-segno : goal.invariant-loop-segno
invariant-loop-segno l = record {
  after : l.from ≤ l.segno;
  entries : map sit_entry l.into.items ≡ map sit_entry l.initial.into.items ++ map (sit_over l.self l.block) (range_with_len l.from (l.segno - l.from));
  length : length l.into.items ≡ length l.initial.into.items + (l.segno - l.from);
  fits : All (λ e. FitsSitEntry (sit_entry e)) l.initial.into.items → All (λ e. FitsSitEntry (sit_entry e)) l.into.items;
}
