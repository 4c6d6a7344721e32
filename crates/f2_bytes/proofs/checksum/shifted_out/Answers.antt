use Rattle.std.proofs.Common.{◌+◌, ◌-◌, sym, ap, ◌∙◌, arith}
use Rattle.f2_bytes.specs.Checksum.{crc_after}
use Rattle.f2_bytes.proofs.HalvedSteps.{halved-odd, halved-even, halved-all}
use Rattle.f2_bytes.proofs.checksum.shifted_out.Goals as goal
use Rattle.f2_bytes.proofs.checksum.shifted_out.Goals.{then-c-eq1, else-c-eq1}

pub loop-preserved : goal.loop-preserved
loop-preserved c = elim c.if-c-eq1.branch [
  | then-c-eq1 w ↦ ap (crc_after (8 - (c.loop.counter + 1))) w.c-is ∙ sym (halved-odd 8 c.loop.counter c.loop.c c.loop-test.true w.if-c-eq1.true) ∙ c.loop.invariant
  | else-c-eq1 w ↦ ap (crc_after (8 - (c.loop.counter + 1))) w.c-is ∙ sym (halved-even 8 c.loop.counter c.loop.c c.loop-test.true w.if-c-eq1.false) ∙ c.loop.invariant
]

pub returns : goal.returns
returns c = sym (halved-all 8 c.loop.counter c.loop.c (omega arith)) ∙ c.loop.invariant
