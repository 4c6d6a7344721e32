use Rattle.std.proofs.Common.{sym, ◌∙◌, arith}
use Rattle.f2_dent.proofs.Hashes.{tea-round, tea-done}
use Rattle.f2_dent.proofs.hash.mix.Goals as goal

pub loop-preserved : goal.loop-preserved
loop-preserved c =
    tea-round 16 c.loop.counter c.args.words c.loop.s c.loop.x c.loop.y c.half-x.result c.half-y.result (omega (arith, c.loop-test.true)) c.half-x.ensures c.half-y.ensures
    ∙ c.loop.invariant

pub returns : goal.returns
returns c = sym (tea-done 16 c.loop.counter c.args.words c.loop.s c.loop.x c.loop.y (omega (arith, c.loop-test.false))) ∙ c.loop.invariant
