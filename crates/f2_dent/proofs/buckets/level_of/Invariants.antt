use Rattle.std.proofs.Common.{◌≡◌, ℕ, ◌+◌, ◌-◌, ◌<◌, ◌≤◌}
use Rattle.f2_bytes.specs.Buckets.{level_start}
use Rattle.f2_dent.proofs.buckets.level_of.Given as goal

-- the block lies behind each level before
abbrev pub invariant-loop-next : goal.invariant-loop-next
invariant-loop-next l = record {
  level : l.level < 63;
  start : l.start ≡ level_start l.level l.dir_level;
  next : l.next ≡ level_start (l.level + 1) l.dir_level;
  before : (m : ℕ) → m < l.level → level_start (m + 1) l.dir_level ≤ l.block;
}

abbrev pub decreases-loop-next : goal.decreases-loop-next
decreases-loop-next l = 63 - l.level
