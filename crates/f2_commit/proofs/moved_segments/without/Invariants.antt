use Rattle.f2_commit.proofs.LeftSegments.{ClearedSoFar}
use Rattle.f2_commit.proofs.moved_segments.without.Given as goal

-- the blocks at the first of the addresses are cleared
abbrev pub invariant-loop-j : goal.invariant-loop-j
invariant-loop-j l = ClearedSoFar l.addresses l.main l.from l.j l.map l.left
