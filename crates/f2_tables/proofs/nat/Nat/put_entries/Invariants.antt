use Rattle.std.proofs.Common.{◌≡◌, ℕ, ◌*◌, ◌+◌, ◌<◌}
use Rattle.f2_bytes.specs.Journal.{nat_entry_at}
use Rattle.f2_tables.specs.Tables.{nat_over}
use Rattle.f2_tables.proofs.nat.Nat.put_entries.Given as goal

-- the first entries stand in the block
abbrev pub invariant-loop-j : goal.invariant-loop-j
invariant-loop-j l = (m : ℕ) → m < l.j → nat_entry_at l.whole (9 * m) ≡ nat_over l.self l.block (455 * l.k + m)
