use Rattle.f2_dump.specs.Text.{summary_lines}
use Rattle.f2_dump.proofs.EntryLines.{summary_text}
use Rattle.f2_dump.proofs.Sending.{held_none, held_cut, gathers_same}
use Rattle.f2_dump.proofs.summaries.gather_summaries.Goals as goal

pub returns-in_err-summaries-clause-lines : goal.returns-in_err-summaries-clause-lines
returns-in_err-summaries-clause-lines g c = λ image told of.
    held_cut (summary_lines image c.args.segment) c.from_residual.result c.from_residual.ensures.0 (held_none c.args.text.now.items (g.O.Sink.told c.args.o.now))

pub returns-clause-lines : goal.returns-clause-lines
returns-clause-lines g c = λ image told of.
    gathers_same c.gather_entries.result (summary_text image c.args.m.now c.args.segment c.summaries.new.into of (c.in_ok-summaries.ensures.summaries image told of)) c.gather_entries.ensures.lines
