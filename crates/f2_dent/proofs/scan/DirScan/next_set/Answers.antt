use Rattle.std.proofs.Common.{◌≡◌, false, ◌-◌, ap, ◌∙◌, map}
use Rattle.f2_bytes.specs.Bits.{bit_lsb}
use Rattle.f2_dent.specs.Scan.{items_left, item_in_area}
use Rattle.f2_dent.proofs.Scans.{items-clear, items-end}
use Rattle.f2_dent.proofs.scan.DirScan.next_set.Goals as goal

pub loop-slot-preserved : goal.loop-slot-preserved
loop-slot-preserved c =
    let clear : bit_lsb c.args.self.now.area.now c.loop-slot.slot ≡ false = cc in
    c.loop-slot.invariant
    ∙ items-clear c.args.self.now.area.now c.args.self.now.slots c.loop-slot.slot c.loop-slot-test.true clear

pub returns : goal.returns
unfolding items_left
returns c =
    ap (map (item_in_area c.args.self.now.area.now c.args.self.now.slots))
    (c.loop-slot.invariant ∙ items-end c.args.self.now.area.now c.args.self.now.slots (c.args.self.now.slots - c.loop-slot.slot) c.loop-slot.slot c.loop-slot-test.false)
