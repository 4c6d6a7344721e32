use Rattle.f2_dump.specs.Text.{segment_line}
use Rattle.f2_dump.proofs.Sending.{held_none, held_cut}
use Rattle.f2_dump.proofs.tables.gather_segment.Goals as goal

pub returns-in_err-entry-clause-lines : goal.returns-in_err-entry-clause-lines
returns-in_err-entry-clause-lines g c = λ image told of.
    held_cut (segment_line image c.args.segment) c.from_residual.result c.from_residual.ensures.0 (held_none c.args.text.now.items (g.O.Sink.told c.args.o.now))
