use Rattle.std.proofs.Common.{◌≡◌, ℕ, ◌*◌, ◌+◌, ◌<◌, ◌≤◌}
use Rattle.f2_bytes.specs.Journal.{sit_entry_at}
use Rattle.f2_tables.specs.Tables.{sit_over}
use Rattle.f2_tables.proofs.sit.Sit.put_entries.Given as goal

-- the first entries stand in the block
abbrev pub invariant-loop-segno : goal.invariant-loop-segno
invariant-loop-segno l = record {
  after : 55 * l.k ≤ l.segno;
  entries : (m : ℕ) → 55 * l.k + m < l.segno → sit_entry_at l.whole (74 * m) ≡ sit_over l.self l.block (55 * l.k + m);
}
