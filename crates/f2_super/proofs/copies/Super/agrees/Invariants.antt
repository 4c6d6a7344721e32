use Rattle.std.proofs.Common.{◌≡◌, ℕ, ◌<◌, true}
use Rattle.f2_bytes.specs.Superblock.{agree_at}
use Rattle.f2_super.proofs.copies.Super.agrees.Given as goal

abbrev pub invariant-loop-row : goal.invariant-loop-row
invariant-loop-row l = (k : ℕ) → k < l.row → agree_at l.self l.other k ≡ true
