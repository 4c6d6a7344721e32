use Rattle.std.proofs.Common.{◌≡◌, ℕ, ◌+◌, ◌==◌, ◌||◌, false, sym, ap, ◌∙◌, arith}
use Rattle.std.specs.List.{list_any}
use Rattle.f2_bytes.specs.Bytes.{numbers_below}
use Rattle.f2_bytes.specs.Checkpoint.{Log, log, is_log_segment}
use Rattle.f2_free.proofs.NumbersBelow.{any-none, any-more}
use Rattle.f2_free.proofs.MarkSteps.{more-same, more-none, more-then, six-logs}
use Rattle.f2_free.proofs.marking.mark_logs.Goals as goal

pub loop-t-init : goal.loop-t-init
loop-t-init c =
    let p = λ (segment t : ℕ). (log c.args.m.now.chosen.head t).segment == segment in
    more-same (λ segment. false) (λ segment. list_any (p segment) (numbers_below 0)) (λ segment. sym (any-none (p segment))) (more-none c.args.marks.now)

pub loop-t-preserved : goal.loop-t-preserved
loop-t-preserved c =
    let p = λ (segment t : ℕ). (log c.args.m.now.chosen.head t).segment == segment in
    more-same (λ segment. list_any (p segment) (numbers_below c.loop-t.t) || (c.log.result.segno == segment)) (λ segment. list_any (p segment) (numbers_below (c.loop-t.t + 1)))
    (λ segment. ap (λ (x : Log). list_any (p segment) (numbers_below c.loop-t.t) || (x.segment == segment)) c.log.ensures ∙ sym (any-more (p segment) c.loop-t.t))
    (more-then (λ segment. list_any (p segment) (numbers_below c.loop-t.t)) (λ segment. c.log.result.segno == segment) c.loop-t.invariant c.mark_segment.ensures)

pub returns : goal.returns
returns c =
    let p = λ (segment t : ℕ). (log c.args.m.now.chosen.head t).segment == segment in
    let all : c.loop-t.t ≡ 6 = omega arith in
    more-same (λ segment. list_any (p segment) (numbers_below c.loop-t.t)) (is_log_segment c.args.m.now.chosen.head)
    (λ segment. ap (λ n. list_any (p segment) (numbers_below n)) all ∙ six-logs (p segment)) c.loop-t.invariant
