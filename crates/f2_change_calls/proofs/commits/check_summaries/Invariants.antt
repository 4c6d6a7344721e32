use Rattle.std.proofs.Common.{◌≡◌, ◌<◌, true, All, take}
use Rattle.f2_bytes.specs.Superblock.{is_main}
use Rattle.f2_change_calls.proofs.commits.check_summaries.Given as goal

abbrev pub invariant-loop-w : goal.invariant-loop-w
invariant-loop-w l = All (λ w. w.0 < l.l.segments) (take l.w-index l.sums)
