use Rattle.std.proofs.Common.{arith}
use Rattle.f2_free.proofs.MarkSteps.{marks-none, marks-listed_more, marks-listed_all}
use Rattle.f2_free.proofs.marking.mark_addresses.Goals as goal

pub loop-address-init : goal.loop-address-init
loop-address-init c = marks-none c.args.marks.now

pub loop-address-preserved : goal.loop-address-preserved
loop-address-preserved c = marks-listed_more c.args.addresses.now c.loop-address.address-index c.loop-address-test.true c.loop-address.invariant c.mark.ensures

pub returns : goal.returns
returns c = marks-listed_all c.args.addresses.now c.loop-address.address-index (omega arith) c.loop-address.invariant
