use Rattle.std.proofs.Common.{◌≡◌, ◌++◌, map}
use Rattle.std.specs.List.{range_with_len}
use Rattle.f2_bytes.specs.Bytes.{word}
use Rattle.f2_pack.proofs.reading.push_orphans.Given as goal

-- the numbers so far
abbrev pub invariant-loop-k : goal.invariant-loop-k
invariant-loop-k l = l.orphans.items ≡ l.fn.orphans.items ++ map (word l.b) (range_with_len 0 l.k)
