use Rattle.std.proofs.Common.{◌≡◌, ℕ, ◌++◌, List, map}
use Rattle.f2_bytes.specs.Bytes.{Block}
use Rattle.f2_commit.specs.Moves.{node_summary}
use Rattle.f2_commit.proofs.PlacedBlocks.{SumsSoFar}
use Rattle.f2_commit.proofs.moved_blocks.push_node_sums.Given as goal

-- the first blocks
abbrev pub invariant-loop-i : goal.invariant-loop-i
invariant-loop-i l = (new : List (ℕ × Block)) × (l.into.items ≡ l.initial.into.items ++ new) × SumsSoFar l.node_targets 1 (map node_summary l.nids) l.i new
