use Rattle.f2_commit.proofs.PlacedBlocks.{PlacedSoFar}
use Rattle.f2_commit.proofs.moved_blocks.moved_entries.Given as goal

-- the first entries
abbrev pub invariant-loop-n : goal.invariant-loop-n
invariant-loop-n l = PlacedSoFar l.l l.node_targets l.nodes l.n l.entries.items
