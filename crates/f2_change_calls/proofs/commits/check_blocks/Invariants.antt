use Rattle.std.proofs.Common.{◌≡◌, ◌<◌, true, All, take}
use Rattle.f2_bytes.specs.Superblock.{is_main}
use Rattle.f2_change_calls.proofs.commits.check_blocks.Given as goal

abbrev pub invariant-loop-w : goal.invariant-loop-w
invariant-loop-w l = All (λ w. is_main l.l w.0 ≡ true) (take l.w-index l.blocks)
