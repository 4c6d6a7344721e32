use Rattle.std.proofs.Common.{◌≡◌, Ok, ap, sym, codes, arith}
use Rattle.f2_dump.specs.Trees.{indent}
use Rattle.f2_dump.proofs.Sending.{gathers_then, gathers_held, gathers_cut, gathers_same, held_none, held_then, held_same, held_gathers}
use Rattle.f2_dump.proofs.Indents.{indent-none, indent-more, indent-whole, ok_then, rest_of}
use Rattle.f2_dump.proofs.printing.gather_indent.Goals as goal

pub loop-init : goal.loop-init
loop-init g c = record {
  lines = held_same (sym indent-none) (held_none c.args.text.now.items (g.O.Sink.told c.args.o.now));
  room = c.requires.room;
  sink = omega arith;
}

pub returns-in_err-keep_room-clause-lines : goal.returns-in_err-keep_room-clause-lines
returns-in_err-keep_room-clause-lines g c =
    let k = c.loop.counter in
    let kept = c.keep_room.ensures.text c.loop.text.items (codes "  ") (ok_then c.extend_from_slice-pushed.result _ _ c.loop.text.items c.extend_from_slice-pushed.ensures.items) in
    let r = c.from_residual in
    gathers_same r.result (indent-whole k c.args.level (omega arith))
    (gathers_cut (rest_of k c.args.level) c.keep_room.result r.result r.ensures.0 (gathers_then c.keep_room.result c.loop.invariant.lines kept))

pub loop-preserved : goal.loop-preserved
loop-preserved g c =
    let kept = c.keep_room.ensures.text c.loop.text.items (codes "  ") (ok_then c.extend_from_slice-pushed.result _ _ c.loop.text.items c.extend_from_slice-pushed.ensures.items) in
    record {
      lines = held_same (sym (indent-more c.loop.counter)) (held_then c.loop.invariant.lines (gathers_held c.in_ok-keep_room.field-0 c.keep_room.result c.in_ok-keep_room.was kept));
      room = c.keep_room.ensures.room;
      sink = omega (arith, c.loop.invariant.sink, c.keep_room.ensures.sink.later);
    }

pub returns-clause-lines : goal.returns-clause-lines
returns-clause-lines g c =
    let all : c.loop.counter ≡ c.args.level = omega arith in
    held_gathers (Ok tt) (held_same (ap indent all) c.loop.invariant.lines)
