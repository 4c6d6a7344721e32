use Rattle.f2_bytes.specs.Superblock.{superblock_rows}
use Rattle.f2_super.specs.Filled.{IsFilled}
use Rattle.f2_super.proofs.making.fill.Given as goal

abbrev pub invariant-loop-k : goal.invariant-loop-k
invariant-loop-k l = IsFilled superblock_rows l.values l.k l.fn.c l.c
