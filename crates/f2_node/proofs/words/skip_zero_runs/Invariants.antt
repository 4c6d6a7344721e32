use Rattle.std.proofs.Common.{◌+◌, ◌≡◌, ◌≤◌, ◌<◌, ℕ}
use Rattle.f2_bytes.specs.Bytes.{word}
use Rattle.f2_node.proofs.words.skip_zero_runs.Given as goal

-- the numbers behind those that are left are 0
abbrev pub invariant-loop-left : goal.invariant-loop-left
invariant-loop-left l = record {
  few : l.left ≤ l.count;
  zeros : (j : ℕ) → l.left ≤ j → j < l.count → word l.b (l.from + j) ≡ 0;
}

abbrev pub decreases-loop-left : goal.decreases-loop-left
decreases-loop-left l = l.left
