use Rattle.std.proofs.Common.{◌≡◌, ◌<◌, ℕ}
use Rattle.f2_bytes.specs.Checkpoint.{log}
use Rattle.f2_areas.proofs.rule_8_logs.first_log.Given as goal

-- no log so far fills the segment
abbrev pub invariant-loop-t : goal.invariant-loop-t
invariant-loop-t l = (n : ℕ) → n < l.t → (log l.m.chosen.head n).segment ≡ l.segno → ⊥
