use Rattle.std.proofs.Common.{◌≢◌, ℕ, ◌*◌, ◌≤◌, ◌<◌}
use Rattle.f2_bytes.specs.Journal.{nat_entry_at}
use Rattle.f2_commit.proofs.free_nids.first_free.Given as goal

-- none so far
abbrev pub invariant-loop-j : goal.invariant-loop-j
invariant-loop-j l = record {
  after : l.from ≤ l.j;
  none : (k : ℕ) → l.from ≤ k → k < l.j → (nat_entry_at l.block (9 * k)).address ≢ 0;
}
