use Rattle.std.proofs.Common.{◌+◌, not, sym, ap, ◌∙◌}
use Rattle.f2_bytes.specs.declared.layout.Layout.{Layout}
use Rattle.f2_bytes.specs.Bytes.{Block, block_at}
use Rattle.f2_bytes.specs.Summary.{summary_entry}
use Rattle.f2_areas.proofs.LogSummaries.{log_known, stored_summaries}
use Rattle.f2_view.proofs.TableReadings.{own_layout}
use Rattle.f2_areas.proofs.rule_6_summaries.read_summaries.Goals as goal

pub returns-then-has_segment-clause-log : goal.returns-then-has_segment-clause-log
returns-then-has_segment-clause-log g c = λ image of.
    ap not (sym c.if-has_segment.true ∙ c.has_segment.ensures ∙ log_known c.args.m.now c.args.logs.now c.requires.logs c.args.segno image of)

pub returns-clause-summaries : goal.returns-clause-summaries
returns-clause-summaries g c = λ image told of k low.
    ap (λ (b : Block). summary_entry b k)
    (c.in_ok-ssa_read.ensures.block image told ∙ ap (λ (l : Layout). block_at image (l.ssa + c.args.segno)) c.layout-l.ensures.value)
    ∙ stored_summaries c.args.m.now c.args.logs.now c.requires.logs c.args.segno image of (sym c.has_segment.ensures ∙ c.if-has_segment.false) k low

pub returns-clause-stored : goal.returns-clause-stored
returns-clause-stored g c = λ image told of stored.
    c.in_ok-ssa_read.ensures.block image told
    ∙ ap (λ (l : Layout). block_at image (l.ssa + c.args.segno)) (c.layout-l.ensures.value ∙ own_layout image c.args.m.now of)

pub returns-clause-log : goal.returns-clause-log
returns-clause-log g c = λ image of.
    ap not (sym c.if-has_segment.false ∙ c.has_segment.ensures ∙ log_known c.args.m.now c.args.logs.now c.requires.logs c.args.segno image of)
