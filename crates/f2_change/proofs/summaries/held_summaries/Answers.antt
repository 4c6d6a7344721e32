use Rattle.std.proofs.Common.{sym, ◌∙◌}
use Rattle.f2_change.proofs.LogBlocks.{entry-zeros, next-new, next-held}
use Rattle.f2_change.proofs.summaries.held_summaries.Goals as goal

pub returns-then-not-was_log-clause-entries : goal.returns-then-not-was_log-clause-entries
returns-then-not-was_log-clause-entries g c = λ image told of k inside.
    entry-zeros c.zeros-b.result k c.zeros-b.ensures
    ∙ next-new image c.args.m.now c.args.segno k of (sym c.was_log.ensures ∙ c.if-not-was_log.true)

pub returns-clause-entries : goal.returns-clause-entries
returns-clause-entries g c = λ image told of k inside.
    c.in_ok-summaries.ensures.summaries image told of k inside
    ∙ next-held image c.args.m.now c.args.segno k of (sym c.was_log.ensures ∙ c.if-not-was_log.false)
