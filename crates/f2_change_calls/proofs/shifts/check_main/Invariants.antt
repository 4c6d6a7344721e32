use Rattle.std.proofs.Common.{◌≡◌, ◌<◌, true, All, take}
use Rattle.f2_bytes.specs.Superblock.{is_main}
use Rattle.f2_change_calls.proofs.shifts.check_main.Given as goal

abbrev pub invariant-loop-address : goal.invariant-loop-address
invariant-loop-address l = All (λ a. is_main l.l a ≡ true) (take l.address-index l.addresses)
