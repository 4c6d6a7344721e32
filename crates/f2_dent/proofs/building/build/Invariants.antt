use Rattle.std.proofs.Common.{take}
use Rattle.f2_dent.specs.Places.{block_in, IsFull}
use Rattle.f2_dent.proofs.SoFar.{IsSoFar}
use Rattle.f2_dent.proofs.building.build.Given as goal

abbrev pub invariant-loop-i : goal.invariant-loop-i
invariant-loop-i l = record {
  so_far : IsSoFar l.levels (take l.i l.entries) (block_in l.pages) l.depth l.end;
  full : IsFull (block_in l.pages) l.full;
}
