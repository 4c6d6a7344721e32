use Rattle.std.proofs.Common.{take}
use Rattle.std.specs.Prelude.{◌==◌}
use Rattle.std.specs.List.{list_any}
use Rattle.f2_change.specs.Change.{TurnsBits}
use Rattle.f2_change.proofs.heads.turn.Given as goal

-- the bits of the first blocks are turned
abbrev pub invariant-loop-k : goal.invariant-loop-k
invariant-loop-k l = TurnsBits l.old l.bits (λ n. list_any (λ m. m == n) (take l.k-index l.blocks))
