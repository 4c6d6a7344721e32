use Rattle.std.proofs.Common.{◌≡◌, ◌+◌, ◌++◌, ◌∙◌, ℕ, List, Ok, ap, sym, subst, arith}
use Rattle.f2_disk.proofs.Runs.{reads_then, goes_then}
use Rattle.f2_view.specs.Mounted.{IsMountOf}
use Rattle.f2_dump.specs.Text.{lines_between, summary_lines}
use Rattle.f2_dump.proofs.Nodes.{lines_next, lines_join}
use Rattle.f2_dump.proofs.Sending.{gathers_then, gathers_held, gathers_cut, gathers_same, held_then, held_same, held_gathers}
use Rattle.f2_dump.proofs.summaries.gather_range.Goals as goal

pub returns-in_err-gather_summaries-clause-lines : goal.returns-in_err-gather_summaries-clause-lines
returns-in_err-gather_summaries-clause-lines g c = λ image told of.
    let so_far = c.loop-segment.invariant in
    let k = c.loop-segment.segment in
    let line = summary_lines image in
    let step = c.gather_summaries.ensures.lines image (so_far.reads.told ∙ told) (subst (IsMountOf image) (sym so_far.mount) of) in
    let rest = lines_between line (k + 1) c.args.end in
    let whole = ap (λ (l : List ℕ). l ++ rest) (lines_next line c.args.first k (omega arith)) ∙ lines_join line c.args.first (k + 1) c.args.end (omega arith) (omega arith) in
    gathers_same c.from_residual.result whole (gathers_cut rest c.gather_summaries.result c.from_residual.result c.from_residual.ensures.0 (gathers_then c.gather_summaries.result (so_far.lines image told of) step))

pub loop-segment-preserved : goal.loop-segment-preserved
loop-segment-preserved g c =
    let so_far = c.loop-segment.invariant in
    let k = c.loop-segment.segment in
    let did = c.gather_summaries.ensures in
    record {
      lines = λ image told of.
          let step = did.lines image (so_far.reads.told ∙ told) (subst (IsMountOf image) (sym so_far.mount) of) in
          held_same (lines_next (summary_lines image) c.args.first k (omega arith))
          (held_then (so_far.lines image told of) (gathers_held c.in_ok-gather_summaries.field-0 c.gather_summaries.result c.in_ok-gather_summaries.was step));
      room = did.room;
      sink = omega (arith, so_far.sink, did.sink.later);
      mount = did.mount ∙ so_far.mount;
      reads = reads_then so_far.goes.later so_far.reads did.reads;
      goes = goes_then so_far.goes did.goes;
    }

pub returns-clause-lines : goal.returns-clause-lines
returns-clause-lines g c = λ image told of.
    let all : c.loop-segment.segment ≡ c.args.end = omega arith in
    held_gathers (Ok tt) (held_same (ap (lines_between (summary_lines image) c.args.first) all) (c.loop-segment.invariant.lines image told of))
