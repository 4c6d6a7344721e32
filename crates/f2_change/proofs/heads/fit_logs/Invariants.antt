use Rattle.std.proofs.Common.{ℕ, ◌<◌}
use Rattle.f2_change.specs.Change.{log_at}
use Rattle.f2_change.specs.Heads.{FitLog}
use Rattle.f2_change.proofs.heads.fit_logs.Given as goal

abbrev pub invariant-loop-at : goal.invariant-loop-at
invariant-loop-at l = (t : ℕ) → t < l.at-index → FitLog (log_at l.logs t)
