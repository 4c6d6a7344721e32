use Rattle.std.proofs.Common.{◌≡◌, ◌≤◌, ◌*◌, ◌^◌}
use Rattle.f2_bytes.specs.Buckets.{level_start}
use Rattle.f2_dent.proofs.buckets.start_of.Given as goal

abbrev pub invariant-loop-before : goal.invariant-loop-before
invariant-loop-before l = record { same : l.start ≡ level_start l.before l.dir_level; few : l.start ≤ l.before * 2 ^ 32 }
