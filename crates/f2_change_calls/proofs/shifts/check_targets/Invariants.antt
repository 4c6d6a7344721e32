use Rattle.std.proofs.Common.{◌≡◌, ◌<◌, true, All, take}
use Rattle.f2_bytes.specs.Superblock.{is_main}
use Rattle.f2_change_calls.proofs.shifts.check_targets.Given as goal

abbrev pub invariant-loop-target : goal.invariant-loop-target
invariant-loop-target l = All (λ s. s < l.l.segments) (take l.target-index l.targets)
