use Rattle.std.proofs.Common.{◌≡◌, ◌<◌, true, All, take}
use Rattle.f2_bytes.specs.Superblock.{is_main}
use Rattle.f2_change_calls.proofs.commits.check_logs.Given as goal

abbrev pub invariant-loop-at : goal.invariant-loop-at
invariant-loop-at l = All (λ at. (at.segno < l.l.segments) × (at.offset < 512)) (take l.at-index l.logs)
