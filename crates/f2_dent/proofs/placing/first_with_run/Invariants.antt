use Rattle.std.proofs.Common.{ℕ, ◌≤◌, ◌<◌}
use Rattle.f2_dent.specs.Places.{block_in, LacksRun}
use Rattle.f2_dent.proofs.placing.first_with_run.Given as goal

abbrev pub invariant-loop-block : goal.invariant-loop-block
invariant-loop-block l = (k : ℕ) → l.from ≤ k → k < l.block → LacksRun (block_in l.pages) l.slots k
