use Rattle.std.proofs.Common.{take}
use Rattle.std.specs.Prelude.{◌==◌}
use Rattle.std.specs.List.{list_any}
use Rattle.f2_free.specs.SegmentMarks.{MarksBlocks}
use Rattle.f2_free.proofs.marking.mark_addresses.Given as goal

-- the addresses so far
abbrev pub invariant-loop-address : goal.invariant-loop-address
invariant-loop-address l = MarksBlocks l.initial.marks l.marks (λ a. list_any (λ x. x == a) (take l.address-index l.addresses))
