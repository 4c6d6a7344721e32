use Rattle.std.proofs.Common.{◌≡◌, ℕ, ap, sym, ◌∙◌, arith, below_more}
use Rattle.f2_bytes.specs.Checkpoint.{log, Log}
use Rattle.f2_view.proofs.SummaryReads.{log_found, log_none}
use Rattle.f2_view.proofs.accessors.Mount.log_of.Goals as goal

pub returns-then-log-segno-clause-log : goal.returns-then-log-segno-clause-log
returns-then-log-segno-clause-log c =
    sym (log_found c.args.self.now.chosen.head c.args.segno c.loop-t.t c.loop-t-test.true (ap (λ (at : Log). at.segment) (sym c.log.ensures) ∙ c.if-log-segno.true) c.loop-t.invariant)

pub loop-t-preserved : goal.loop-t-preserved
loop-t-preserved c =
    below_more (λ (n : ℕ). (log c.args.self.now.chosen.head n).segment ≡ c.args.segno → ⊥) c.loop-t.t c.loop-t.invariant
    (λ is. c.if-log-segno.false (ap (λ (at : Log). at.segment) c.log.ensures ∙ is))

pub returns-clause-log : goal.returns-clause-log
returns-clause-log c = sym (log_none c.args.self.now.chosen.head c.args.segno (λ n lt. c.loop-t.invariant n (omega arith)))
