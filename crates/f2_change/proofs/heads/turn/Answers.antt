use Rattle.std.proofs.Common.{get_or, not, subst}
use Rattle.f2_bytes.specs.Bits.{bit_msb, ChangesBit}
use Rattle.f2_change.proofs.HeadRows.{get_or-any}
use Rattle.f2_change.proofs.TurnedBits.{turns-none, turns-more}
use Rattle.f2_change.proofs.heads.turn.Goals as goal

pub loop-k-init : goal.loop-k-init
loop-k-init c = turns-none c.args.old.now c.args.bits.now c.args.blocks.now c.requires.same

pub loop-k-preserved : goal.loop-k-preserved
loop-k-preserved c =
    let blocks = c.args.blocks.now in
    let i = c.loop-k.k-index in
    turns-more c.args.old.now c.loop-k.bits c.set_bit_msb.new.map blocks i (get_or blocks i 0) c.loop-k-test.true (get_or-any blocks i 0 c.loop-k-test.true) c.loop-k.invariant
    (subst (λ b. ChangesBit bit_msb c.loop-k.bits c.set_bit_msb.new.map (get_or blocks i 0) (not b)) c.bit_msb-bit.ensures c.set_bit_msb.ensures)
