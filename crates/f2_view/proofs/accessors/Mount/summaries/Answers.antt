use Rattle.std.proofs.Common.{◌≡◌, ℕ, ◌+◌, ◌*◌, refl, sym, ap, ◌∙◌}
use Rattle.std.proofs.lemmas.Result.{IfOk-weaker}
use Rattle.f2_bytes.specs.declared.layout.Layout.{Layout}
use Rattle.f2_bytes.specs.Bytes.{block_at}
use Rattle.f2_bytes.specs.Summary.{summary, summary_entry}
use Rattle.f2_view.specs.Mounted.{layout_in}
use Rattle.f2_view.proofs.SummaryReads.{of_log, of_no_log}
use Rattle.f2_view.proofs.accessors.Mount.summaries.Goals as goal

pub returns-in-Some-clause-summaries : goal.returns-in-Some-clause-summaries
returns-in-Some-clause-summaries g c = IfOk-weaker c.log_summaries.result _ _ (λ done all image told of k inside.
    let m = c.args.self.now in
    let address : ℕ = c.layout-l.result.main + 512 * c.args.segno + k in
    let at : address ≡ (layout_in m).main + 512 * c.args.segno + k = ap (λ (l : Layout). l.main + 512 * c.args.segno + k) c.layout-l.ensures.value in
    all image told of k inside ∙ sym (of_log image m of c.args.segno k address inside at c.in-Some.t (sym c.in-Some.ensures.log)) ∙ ap (summary image) at) c.log_summaries.ensures.summaries

pub returns-in_ok-ssa_read-in-None-clause-summaries : goal.returns-in_ok-ssa_read-in-None-clause-summaries
returns-in_ok-ssa_read-in-None-clause-summaries g c = λ image told of k inside.
    let m = c.args.self.now in
    ap (λ b. summary_entry b k) (c.in_ok-ssa_read-in-None.ensures.block image told ∙ ap (λ (l : Layout). block_at image (l.ssa + c.args.segno)) c.layout-l.ensures.value)
    ∙ sym (of_no_log image m of c.args.segno k ((layout_in m).main + 512 * c.args.segno + k) inside refl (sym c.in-None.ensures.log))
