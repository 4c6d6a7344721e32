use Rattle.std.proofs.Common.{◌≡◌, ◌+◌, ◌∙◌, [], Ok, ap, sym, arith}
use Rattle.f2_bytes.specs.Bytes.{Block}
use Rattle.f2_bytes.specs.Summary.{summary_entry}
use Rattle.f2_sum.specs.Records.{summary_of}
use Rattle.f2_dump.specs.Text.{lines_between, summary_line, entry_line}
use Rattle.f2_dump.proofs.EntryLines.{entries_all, entries_whole}
use Rattle.f2_dump.proofs.FieldLines.{lines-none, lines-more}
use Rattle.f2_dump.proofs.Sending.{gathers_then, gathers_held, gathers_cut, gathers_same, held_none, held_then, held_same, held_gathers}
use Rattle.f2_dump.proofs.summaries.gather_entries.Goals as goal

pub loop-k-init : goal.loop-k-init
loop-k-init g c = record {
  lines = held_same (lines-none (entry_line c.args.segment c.args.b.now) []) (held_none c.args.text.now.items (g.O.Sink.told c.args.o.now));
  room = c.requires.room;
  sink = omega arith;
}

pub returns-in_err-keep-clause-lines : goal.returns-in_err-keep-clause-lines
returns-in_err-keep-clause-lines g c =
    let segment = c.args.segment in
    let k = c.loop-k.k in
    let b = c.args.b.now in
    let entry = c.summary.ensures ∙ ap (λ (bytes : Block). summary_entry bytes k) c.bytes-bytes.ensures.same in
    let kept = c.keep.ensures.text c.loop-k.text.items (summary_line segment k (summary_of c.summary.result)) c.push_summary_line-pushed.ensures.line in
    let step = gathers_same c.keep.result (ap (summary_line segment k) entry) kept in
    let r = c.from_residual in
    gathers_same r.result (entries_whole segment b k 512 (omega arith) (omega arith))
    (gathers_cut (lines_between (entry_line segment b) (k + 1) 512) c.keep.result r.result r.ensures.0 (gathers_then c.keep.result c.loop-k.invariant.lines step))

pub loop-k-preserved : goal.loop-k-preserved
loop-k-preserved g c =
    let segment = c.args.segment in
    let k = c.loop-k.k in
    let entry = c.summary.ensures ∙ ap (λ (bytes : Block). summary_entry bytes k) c.bytes-bytes.ensures.same in
    let kept = c.keep.ensures.text c.loop-k.text.items (summary_line segment k (summary_of c.summary.result)) c.push_summary_line-pushed.ensures.line in
    let step = gathers_same c.keep.result (ap (summary_line segment k) entry) kept in
    record {
      lines = held_same (sym (lines-more (entry_line segment c.args.b.now) k)) (held_then c.loop-k.invariant.lines (gathers_held c.in_ok-keep.field-0 c.keep.result c.in_ok-keep.was step));
      room = c.keep.ensures.room;
      sink = omega (arith, c.loop-k.invariant.sink, c.keep.ensures.sink.later);
    }

pub returns-clause-lines : goal.returns-clause-lines
returns-clause-lines g c =
    let all : c.loop-k.k ≡ 512 = omega arith in
    held_gathers (Ok tt) (held_same (entries_all c.args.segment c.args.b.now c.loop-k.k all) c.loop-k.invariant.lines)
