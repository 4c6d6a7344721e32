use Rattle.std.proofs.Common.{◌≡◌, filter}
use Rattle.f2_bytes.specs.Bytes.{numbers_below}
use Rattle.f2_tables.specs.Tables.{value_at, is_dirty}
use Rattle.f2_tables.proofs.newer.Newer.blocks.Given as goal

-- the blocks so far
abbrev pub invariant-loop-k : goal.invariant-loop-k
invariant-loop-k g l = l.dirty.items ≡ filter (is_dirty l.entries l.limit (value_at l.self)) (numbers_below l.k)
