use Rattle.std.proofs.Common.{◌∙◌, ap, refl}
use Rattle.std.proofs.lemmas.Bool.{cond_below, cond_above}
use Rattle.f2_change.specs.Change.{summary_end}
use Rattle.f2_change.proofs.summaries.log_sum.Goals.{then-t-lt3, else-t-lt3}
use Rattle.f2_change.proofs.summaries.log_sum.Goals as goal

pub returns-clause-end : goal.returns-clause-end
returns-clause-end g c =
    c.log_block.ensures.end
    ∙ ap summary_end (elim c.if-t-lt3.branch [
      | then-t-lt3 w ↦ w.kind-is ∙ cond_below c.args.t 3 0 1 w.if-t-lt3.true
      | else-t-lt3 w ↦ w.kind-is ∙ cond_above c.args.t 3 0 1 1 w.if-t-lt3.false refl
    ])
