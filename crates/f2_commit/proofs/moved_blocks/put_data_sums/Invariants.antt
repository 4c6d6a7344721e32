use Rattle.std.proofs.Common.{◌≡◌, ℕ, ◌+◌, ◌<◌, map, get_or}
use Rattle.f2_bytes.specs.Summary.{summary_entry}
use Rattle.f2_commit.specs.Moves.{node_summary}
use Rattle.f2_commit.specs.Shifting.{data_summary}
use Rattle.f2_commit.proofs.moved_blocks.put_data_sums.Given as goal

-- the first entries
abbrev pub invariant-loop-k : goal.invariant-loop-k
invariant-loop-k l = (k : ℕ) → k < l.k → summary_entry l.bytes k ≡ get_or (map data_summary l.moved) (l.first + k) (node_summary 0)
