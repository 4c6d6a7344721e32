use Rattle.std.proofs.Common.{sym, ◌∙◌}
use Rattle.f2_change.proofs.LogBlocks.{if_ok_more, next-given, next-absent}
use Rattle.f2_change.proofs.summaries.new_summaries.Goals as goal

pub returns-in-Some-clause-entries : goal.returns-in-Some-clause-entries
returns-in-Some-clause-entries g c = λ image told of k inside.
    next-given image c.args.sums.now c.args.segno k c.in-Some.b (sym c.given.ensures ∙ c.in-Some.is)

pub returns-in-None-clause-entries : goal.returns-in-None-clause-entries
returns-in-None-clause-entries g c =
    if_ok_more c.held_summaries.result _ _
    (λ b entries image told of k inside. entries image told of k inside ∙ next-absent image c.args.sums.now c.args.segno k (sym c.given.ensures ∙ c.in-None.is))
    c.held_summaries.ensures.entries
