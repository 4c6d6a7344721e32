use Rattle.std.proofs.Common.{◌≡◌, ℕ, Option, ap, sym, ◌∙◌, arith, below_more}
use Rattle.std.specs.Prelude.{unwrap_or}
use Rattle.f2_bytes.specs.Checkpoint.{log, Log}
use Rattle.f2_view.proofs.SummaryReads.{log_found, log_none}
use Rattle.f2_areas.proofs.rule_8_logs.first_log.Goals as goal

pub returns-then-log-segno : goal.returns-then-log-segno
returns-then-log-segno c =
    sym (ap (λ (o : Option ℕ). unwrap_or o 0)
    (log_found c.args.m.now.chosen.head c.args.segno c.loop-t.t c.loop-t-test.true (ap (λ (at : Log). at.segment) (sym c.log.ensures) ∙ c.if-log-segno.true) c.loop-t.invariant))

pub loop-t-preserved : goal.loop-t-preserved
loop-t-preserved c =
    below_more (λ (n : ℕ). (log c.args.m.now.chosen.head n).segment ≡ c.args.segno → ⊥) c.loop-t.t c.loop-t.invariant
    (λ is. c.if-log-segno.false (ap (λ (at : Log). at.segment) c.log.ensures ∙ is))

pub returns : goal.returns
returns c = sym (ap (λ (o : Option ℕ). unwrap_or o 0) (log_none c.args.m.now.chosen.head c.args.segno (λ n lt. c.loop-t.invariant n (omega arith))))
