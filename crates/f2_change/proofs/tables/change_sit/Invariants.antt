use Rattle.std.proofs.Common.{◌≡◌, take}
use Rattle.f2_change.specs.TableBlocks.{ChangesSit}
use Rattle.f2_change.proofs.tables.change_sit.Given as goal

abbrev pub invariant-loop-w : goal.invariant-loop-w
invariant-loop-w g l = record {
  changes : ChangesSit (take l.w-index l.entries) l.fn.sit l.sit;
  disk : l.d ≡ l.fn.d;
}
