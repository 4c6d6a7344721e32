use Rattle.std.proofs.Common.{◌≡◌, ℕ, length}
use Rattle.f2_tables.proofs.Marks.{marked_by}
use Rattle.f2_tables.proofs.newer.Newer.mark.Given as goal

-- a block is marked, or a key that is left lies in it, exactly where one of all keys does
abbrev pub invariant-loop-n : goal.invariant-loop-n
invariant-loop-n g l = record {
  size : length l.marks.items ≡ length l.initial.marks.items;
  marked : (k : ℕ) → marked_by l.entries l.limit l.marks.items l.n-iterator k ≡ marked_by l.entries l.limit l.initial.marks.items l.initial.n-iterator k;
}
