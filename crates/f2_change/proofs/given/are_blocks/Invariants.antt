use Rattle.std.proofs.Common.{All, take}
use Rattle.f2_bytes.specs.Bytes.{IsBlock}
use Rattle.f2_change.proofs.given.are_blocks.Given as goal

abbrev pub invariant-loop-w : goal.invariant-loop-w
invariant-loop-w l = All (λ w. IsBlock w.1) (take l.w-index l.blocks)
