use Rattle.std.proofs.Common.{ap, ◌∙◌}
use Rattle.std.specs.Prelude.{unwrap_or}
use Rattle.f2_bytes.specs.Summary.{missing_summary}
use Rattle.f2_pack.specs.Held.{Held, held_summary}
use Rattle.f2_view.proofs.SummaryReads.{kept_summary}
use Rattle.f2_view.proofs.accessors.Mount.log_summary.Goals as goal

pub returns-in-Some-clause-summary : goal.returns-in-Some-clause-summary
returns-in-Some-clause-summary g c = λ image told of.
    ap (λ o. unwrap_or o (missing_summary image c.args.t c.args.addr))
    (c.in-Some.ensures.value ∙ ap (λ (h : Held). held_summary h c.args.t c.args.k) c.chosen.ensures ∙ kept_summary image c.args.self.now of c.args.t c.args.k c.requires.log c.requires.block)

pub returns-in_ok-missing_summary-in-None-clause-summary : goal.returns-in_ok-missing_summary-in-None-clause-summary
returns-in_ok-missing_summary-in-None-clause-summary g c = λ image told of.
    c.in_ok-missing_summary-in-None.ensures.summary image told
    ∙ ap (λ o. unwrap_or o (missing_summary image c.args.t c.args.addr))
    (c.in-None.ensures.value ∙ ap (λ (h : Held). held_summary h c.args.t c.args.k) c.chosen.ensures ∙ kept_summary image c.args.self.now of c.args.t c.args.k c.requires.log c.requires.block)
