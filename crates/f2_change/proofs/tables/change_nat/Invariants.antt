use Rattle.std.proofs.Common.{◌≡◌, take}
use Rattle.f2_change.specs.TableBlocks.{ChangesNat}
use Rattle.f2_change.proofs.tables.change_nat.Given as goal

abbrev pub invariant-loop-w : goal.invariant-loop-w
invariant-loop-w g l = record {
  changes : ChangesNat (take l.w-index l.entries) l.fn.nat l.nat;
  disk : l.d ≡ l.fn.d;
}
