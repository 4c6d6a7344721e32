use Rattle.std.proofs.Common.{◌≡◌, ◌<◌, true, All, take}
use Rattle.f2_bytes.specs.Journal.{FitsSitEntry}
use Rattle.f2_sum.specs.Records.{sit_entry}
use Rattle.f2_change_calls.proofs.commits.check_segments.Given as goal

abbrev pub invariant-loop-w : goal.invariant-loop-w
invariant-loop-w l = All (λ w. (w.0 < l.l.segments) × FitsSitEntry (sit_entry w.1)) (take l.w-index l.sit)
