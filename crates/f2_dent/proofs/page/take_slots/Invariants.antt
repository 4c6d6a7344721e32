use Rattle.f2_dent.proofs.Bits.{IsTaken}
use Rattle.f2_dent.proofs.page.take_slots.Given as goal

abbrev pub invariant-loop-at : goal.invariant-loop-at
invariant-loop-at l = IsTaken l.initial.map l.map l.slot l.at
