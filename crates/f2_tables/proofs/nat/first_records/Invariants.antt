use Rattle.std.proofs.Common.{◌≡◌, ℕ, take}
use Rattle.std.specs.Prelude.{option_map}
use Rattle.f2_bytes.specs.NodeAddressTable.{nat_journal_entry}
use Rattle.f2_sum.specs.Records.{nat_entry}
use Rattle.f2_tables.specs.Tables.{value_at}
use Rattle.f2_tables.proofs.nat.first_records.Given as goal

-- the records so far
abbrev pub invariant-loop-k : goal.invariant-loop-k
invariant-loop-k l = (n : ℕ) → option_map nat_entry (value_at l.newer n) ≡ nat_journal_entry (take l.k l.j) n
