use Rattle.std.proofs.Common.{◌+◌, ◌-◌, ◌/◌, ◌%◌, sym, ap, ◌∙◌, arith}
use Rattle.std.proofs.lemmas.Result.{IfOk-weaker}
use Rattle.f2_bytes.specs.declared.layout.Layout.{Layout}
use Rattle.f2_bytes.specs.Bytes.{block_at}
use Rattle.f2_bytes.specs.Summary.{summary_entry}
use Rattle.f2_view.specs.Mounted.{layout_in}
use Rattle.f2_view.proofs.SummaryReads.{parts_of, of_log, of_no_log}
use Rattle.f2_view.proofs.accessors.Mount.summary.Goals as goal

pub returns-in-Some-clause-summary : goal.returns-in-Some-clause-summary
returns-in-Some-clause-summary g c = IfOk-weaker c.log_summary.result _ _ (λ s all image told of.
    let m = c.args.self.now in
    let from = c.args.addr - c.layout-l.result.main in
    let at = parts_of (layout_in m) c.layout-l.result c.args.addr c.layout-l.ensures.value c.requires.main in
    all image told of ∙ sym (of_log image m of (from / 512) (from % 512) c.args.addr (omega arith) at c.in-Some.t (sym c.in-Some.ensures.log))) c.log_summary.ensures.summary

pub returns-in_ok-stored_summary-in-None-clause-summary : goal.returns-in_ok-stored_summary-in-None-clause-summary
returns-in_ok-stored_summary-in-None-clause-summary g c = λ image told of.
    let m = c.args.self.now in
    let from = c.args.addr - c.layout-l.result.main in
    let at = parts_of (layout_in m) c.layout-l.result c.args.addr c.layout-l.ensures.value c.requires.main in
    c.in_ok-stored_summary-in-None.ensures.summary image told
    ∙ ap (λ (l : Layout). summary_entry (block_at image (l.ssa + from / 512)) (from % 512)) c.layout-l.ensures.value
    ∙ sym (of_no_log image m of (from / 512) (from % 512) c.args.addr (omega arith) at (sym c.in-None.ensures.log))
