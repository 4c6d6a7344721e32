use Rattle.std.proofs.Common.{length, ap, rules}
use Rattle.f2_dent.specs.Scan.{items_left}
use Rattle.f2_dent.proofs.Scans.{items-next}
use Rattle.f2_dent.proofs.scan.DirScanIterator.next.Goals as goal

pub returns-clause-steps : goal.returns-clause-steps
unfolding items_left
returns-clause-steps c =
    let old = c.args.self.now in
    let found = c.in_ok-slot.ensures in
    items-next old.area.now old.slots old.at c.in_ok-slot.slot c.behind-self.result c.item_in-item.result found.within found.set found.items c.item_in-item.ensures c.behind-self.ensures

pub returns-clause-goes : goal.returns-clause-goes
unfolding items_left
returns-clause-goes c =
    let old = c.args.self.now in
    let found = c.in_ok-slot.ensures in
    let step = items-next old.area.now old.slots old.at c.in_ok-slot.slot c.behind-self.result c.item_in-item.result found.within found.set found.items c.item_in-item.ensures c.behind-self.ensures in
    let shorter = ap length step in search rules
