use Rattle.f2_dent.proofs.Runs.{IsScanned}
use Rattle.f2_dent.proofs.page.first_run.Given as goal

abbrev pub invariant-loop-at : goal.invariant-loop-at
invariant-loop-at l = IsScanned 214 l.map l.slots l.at l.free
