use Rattle.std.proofs.Common.{◌≡◌, ℕ, ◌≤◌, ◌<◌}
use Rattle.f2_tables.specs.Tables.{nat_over}
use Rattle.f2_tables.proofs.nat.Nat.first_live.Given as goal

-- none so far
abbrev pub invariant-loop-nid : goal.invariant-loop-nid
invariant-loop-nid l = record {
  after : l.from ≤ l.nid;
  none : (k : ℕ) → l.from ≤ k → k < l.nid → (nat_over l.self l.block k).address ≡ 0;
}
