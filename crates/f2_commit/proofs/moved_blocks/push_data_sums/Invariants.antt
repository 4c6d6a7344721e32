use Rattle.std.proofs.Common.{◌≡◌, ℕ, ◌++◌, List, map}
use Rattle.f2_bytes.specs.Bytes.{Block}
use Rattle.f2_commit.specs.Shifting.{data_summary}
use Rattle.f2_commit.proofs.PlacedBlocks.{SumsSoFar}
use Rattle.f2_commit.proofs.moved_blocks.push_data_sums.Given as goal

-- the first blocks
abbrev pub invariant-loop-i : goal.invariant-loop-i
invariant-loop-i l = (new : List (ℕ × Block)) × (l.into.items ≡ l.initial.into.items ++ new) × SumsSoFar l.targets 0 (map data_summary l.moved) l.i new
