use Rattle.std.proofs.Common.{◌≡◌, ◌<◌, ℕ, length, nat_lt}
use Rattle.f2_bytes.specs.Bits.{bit_msb}
use Rattle.f2_commit.proofs.moved_segments.first_marks.Given as goal

-- the first blocks are marked
abbrev pub invariant-loop-k : goal.invariant-loop-k
invariant-loop-k l = record {
  size : length l.map ≡ 64;
  bits : (k : ℕ) → k < 512 → bit_msb l.map k ≡ nat_lt k l.k;
}
