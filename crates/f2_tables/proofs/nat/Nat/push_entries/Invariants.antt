use Rattle.std.proofs.Common.{◌≡◌, ◌+◌, ◌-◌, ◌≤◌, ◌++◌, map, length}
use Rattle.std.specs.List.{range_with_len}
use Rattle.f2_sum.specs.Records.{nat_entry}
use Rattle.f2_tables.specs.Tables.{nat_over}
use Rattle.f2_tables.proofs.nat.Nat.push_entries.Given as goal

-- the entries so far
abbrev pub invariant-loop-nid : goal.invariant-loop-nid
invariant-loop-nid l = record {
  after : l.from ≤ l.nid;
  entries : map nat_entry l.into.items ≡ map nat_entry l.initial.into.items ++ map (nat_over l.self l.block) (range_with_len l.from (l.nid - l.from));
  length : length l.into.items ≡ length l.initial.into.items + (l.nid - l.from);
}
