use Rattle.std.proofs.Common.{◌≡◌, ◌<◌, ℕ}
use Rattle.f2_bytes.specs.Checkpoint.{log}
use Rattle.f2_view.proofs.accessors.Mount.log_of.Given as goal

-- no log so far fills the segment
abbrev pub invariant-loop-t : goal.invariant-loop-t
invariant-loop-t l = (n : ℕ) → n < l.t → (log l.self.chosen.head n).segment ≡ l.segno → ⊥
