use Rattle.std.proofs.Common.{◌≡◌, ◌<◌, ◌≤◌, ℕ, false, All, arith, subst}
use Rattle.std.proofs.lemmas.List.{take_all}
use Rattle.std.proofs.lemmas.List.Elements.{All-more}
use Rattle.f2_pack.specs.declared.checkpoint.Log.{Log}
use Rattle.f2_change_calls.proofs.commits.check_logs.Goals as goal

pub loop-at-preserved : goal.loop-at-preserved
loop-at-preserved c =
    All-more (λ (at : Log). (at.segno < c.args.l.now.segments) × (at.offset < 512)) c.args.logs.now c.loop-at.at-index (record { segno = 0; offset = 0; reuse = false }) c.loop-at-test.true c.loop-at.invariant
    (omega (arith, c.if-at-l.false), omega (arith, c.if-at-ge512.false))

pub returns : goal.returns
returns c = subst (All (λ (at : Log). (at.segno < c.args.l.now.segments) × (at.offset < 512))) (take_all c.loop-at.at-index c.args.logs.now (omega (arith, c.loop-at-test.false))) c.loop-at.invariant
