use Rattle.std.proofs.Common.{sym, arith}
use Rattle.f2_super.proofs.Agree.{agree-all, agree-row}
use Rattle.f2_super.proofs.copies.Super.agrees.Goals as goal

pub returns-then-not-agrees_at : goal.returns-then-not-agrees_at
returns-then-not-agrees_at c = sym (agree-row c.args.self.now c.args.other.now c.loop-row.row c.loop-row-test.true (cc (c.if-not-agrees_at.ensures)))

pub returns : goal.returns
returns c = sym (agree-all c.args.self.now c.args.other.now (λ k below. c.loop-row.invariant k (omega (arith, below))))
