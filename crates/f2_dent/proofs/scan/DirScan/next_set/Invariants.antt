use Rattle.std.proofs.Common.{◌≡◌, ◌-◌}
use Rattle.f2_bytes.specs.Directory.{items_from}
use Rattle.f2_dent.proofs.scan.DirScan.next_set.Given as goal

-- no item begins in a slot before
abbrev pub invariant-loop-slot : goal.invariant-loop-slot
invariant-loop-slot l =
    items_from l.self.area.now l.self.slots (l.self.slots - l.self.at) l.self.at ≡ items_from l.self.area.now l.self.slots (l.self.slots - l.slot) l.slot
