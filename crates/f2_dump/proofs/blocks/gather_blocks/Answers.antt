use Rattle.std.proofs.Common.{◌≡◌, ◌+◌, ◌∙◌, [], Ok, ap, sym, subst, refl, arith}
use Rattle.f2_disk.proofs.Runs.{reads_then, goes_then, reads_same}
use Rattle.f2_view.specs.Mounted.{IsMountOf}
use Rattle.f2_dump.specs.Text.{lines_below, lines_between}
use Rattle.f2_dump.specs.Walk.{part}
use Rattle.f2_dump.proofs.EntryLines.{below_whole}
use Rattle.f2_dump.proofs.FieldLines.{lines-none, lines-more}
use Rattle.f2_dump.proofs.FileParts.{inode_first}
use Rattle.f2_dump.proofs.Sending.{gathers_then, gathers_held, gathers_cut, gathers_same, held_none, held_then, held_same, held_gathers, goes_same}
use Rattle.f2_dump.proofs.blocks.gather_blocks.Goals as goal

pub loop-k-init : goal.loop-k-init
loop-k-init g c = record {
  lines = λ image told of file inode.
      held_same (lines-none (part image c.args.file.now.ino c.args.file.now.size) []) (held_none c.args.text.now.items (g.O.Sink.told c.args.o.now));
  reached = λ image told of inode. record { node = inode_first image c.args.file.now.ino c.args.inode.now inode };
  room = c.requires.room;
  sink = omega arith;
  mount = refl;
  reads = reads_same (g.D.Disk.state c.args.d.now);
  goes = goes_same (g.D.Disk.state c.args.d.now);
}

pub gather_piece-requires-clause-inside : goal.gather_piece-requires-clause-inside
gather_piece-requires-clause-inside g c = c.requires.inside c.loop-k.k (omega arith)

pub returns-in_err-gather_piece-clause-lines : goal.returns-in_err-gather_piece-clause-lines
returns-in_err-gather_piece-clause-lines g c = λ image told of file inode.
    let so_far = c.loop-k.invariant in
    let k = c.loop-k.k in
    let line = part image c.args.file.now.ino c.args.file.now.size in
    let step = c.gather_piece.ensures.lines image (so_far.reads.told ∙ told) (subst (IsMountOf image) (sym so_far.mount) of) file (so_far.reached image told of inode) in
    let r = c.from_residual in
    gathers_same r.result (below_whole line k c.args.count (omega arith))
    (gathers_cut (lines_between line (k + 1) c.args.count) c.gather_piece.result r.result r.ensures.0 (gathers_then c.gather_piece.result (so_far.lines image told of file inode) step))

pub loop-k-preserved : goal.loop-k-preserved
loop-k-preserved g c =
    let so_far = c.loop-k.invariant in
    let did = c.gather_piece.ensures in
    record {
      lines = λ image told of file inode.
          let line = part image c.args.file.now.ino c.args.file.now.size in
          let step = did.lines image (so_far.reads.told ∙ told) (subst (IsMountOf image) (sym so_far.mount) of) file (so_far.reached image told of inode) in
          held_same (sym (lines-more line c.loop-k.k))
          (held_then (so_far.lines image told of file inode) (gathers_held c.in_ok-gather_piece.field-0 c.gather_piece.result c.in_ok-gather_piece.was step));
      reached = λ image told of inode.
          c.in_ok-gather_piece.ensures.reached image (so_far.reads.told ∙ told) (subst (IsMountOf image) (sym so_far.mount) of) (so_far.reached image told of inode);
      room = did.room;
      sink = omega (arith, so_far.sink, did.sink.later);
      mount = did.mount ∙ so_far.mount;
      reads = reads_then so_far.goes.later so_far.reads did.reads;
      goes = goes_then so_far.goes did.goes;
    }

pub returns-clause-lines : goal.returns-clause-lines
returns-clause-lines g c = λ image told of file inode.
    let all : c.loop-k.k ≡ c.args.count = omega arith in
    held_gathers (Ok tt) (held_same (ap (lines_below (part image c.args.file.now.ino c.args.file.now.size)) all) (c.loop-k.invariant.lines image told of file inode))
