use Rattle.std.proofs.Common.{◌≡◌, ◌+◌, ◌++◌, ◌∙◌, ℕ, List, Ok, ap, sym, subst, arith, refl}
use Rattle.f2_disk.proofs.Runs.{reads_then, goes_then, reads_same}
use Rattle.f2_view.specs.Mounted.{IsMountOf}
use Rattle.f2_dump.specs.Text.{lines_between, node_line}
use Rattle.f2_dump.proofs.Nodes.{lines_next, lines_join, lines_skip, lines_skipped}
use Rattle.f2_dump.proofs.Sending.{gathers_then, gathers_held, gathers_cut, gathers_same, held_none, held_cut, held_then, held_same, held_gathers, goes_same}
use Rattle.f2_dump.proofs.tables.gather_nodes.Goals as goal

pub returns-in_err-nid-clause-lines : goal.returns-in_err-nid-clause-lines
returns-in_err-nid-clause-lines g c = λ image told of.
    held_cut (lines_between (node_line image) c.args.first c.args.end) c.from_residual.result c.from_residual.ensures.0 (held_none c.args.text.now.items (g.O.Sink.told c.args.o.now))

pub loop-nid-init : goal.loop-nid-init
loop-nid-init g c =
    let did = c.in_ok-nid.ensures in
    record {
      lines = λ image told of.
          let none = did.none image (sym c.next_node.ensures.reads.told ∙ told) (subst (IsMountOf image) c.next_node.ensures.mount of) in
          held_same (sym (lines_skip image c.args.first c.in_ok-nid.nid did.later none)) (held_none c.args.text.now.items (g.O.Sink.told c.args.o.now));
      later = did.later;
      within = did.within;
      node = λ image told of. did.node image (sym c.next_node.ensures.reads.told ∙ told) (subst (IsMountOf image) c.next_node.ensures.mount of);
      room = c.requires.room;
      sink = omega arith;
      mount = refl;
      reads = reads_same (g.D.Disk.state c.next_node.new.d);
      goes = goes_same (g.D.Disk.state c.next_node.new.d);
    }

pub returns-in_err-gather_node-clause-lines : goal.returns-in_err-gather_node-clause-lines
returns-in_err-gather_node-clause-lines g c = λ image told0 of0.
    let so_far = c.loop-nid.invariant in
    let k = c.loop-nid.nid in
    let line = node_line image in
    let told = c.next_node.ensures.reads.told ∙ told0 in
    let of = subst (IsMountOf image) (sym c.next_node.ensures.mount) of0 in
    let step = c.gather_node.ensures.lines image (so_far.reads.told ∙ told) (subst (IsMountOf image) (sym so_far.mount) of) (so_far.node image told of c.loop-nid-test.true) in
    let rest = lines_between line (k + 1) c.args.end in
    let whole = ap (λ (l : List ℕ). l ++ rest) (lines_next line c.args.first k so_far.later) ∙ lines_join line c.args.first (k + 1) c.args.end (omega arith) (omega arith) in
    let r = c.from_residual-in_err-gather_node in
    gathers_same r.result whole (gathers_cut rest c.gather_node.result r.result r.ensures.0 (gathers_then c.gather_node.result (so_far.lines image told of) step))

pub returns-in_err-nid-2-clause-lines : goal.returns-in_err-nid-2-clause-lines
returns-in_err-nid-2-clause-lines g c = λ image told0 of0.
    let so_far = c.loop-nid.invariant in
    let k = c.loop-nid.nid in
    let line = node_line image in
    let told = c.next_node.ensures.reads.told ∙ told0 in
    let of = subst (IsMountOf image) (sym c.next_node.ensures.mount) of0 in
    let step = c.gather_node.ensures.lines image (so_far.reads.told ∙ told) (subst (IsMountOf image) (sym so_far.mount) of) (so_far.node image told of c.loop-nid-test.true) in
    let rest = lines_between line (k + 1) c.args.end in
    let whole = ap (λ (l : List ℕ). l ++ rest) (lines_next line c.args.first k so_far.later) ∙ lines_join line c.args.first (k + 1) c.args.end (omega arith) (omega arith) in
    let r = c.from_residual-in_err-nid-2 in
    let held = held_then (so_far.lines image told of) (gathers_held c.in_ok-gather_node.field-0 c.gather_node.result c.in_ok-gather_node.was step) in
    gathers_same r.result whole (held_cut rest r.result r.ensures.0 held)

pub loop-nid-preserved : goal.loop-nid-preserved
loop-nid-preserved g c =
    let so_far = c.loop-nid.invariant in
    let k = c.loop-nid.nid in
    let did = c.gather_node.ensures in
    let next = c.in_ok-nid-2.ensures in
    record {
      lines = λ image told of.
          let told1 = so_far.reads.told ∙ told in
          let of1 = subst (IsMountOf image) (sym so_far.mount) of in
          let step = did.lines image told1 of1 (so_far.node image told of c.loop-nid-test.true) in
          let none = next.none image (did.reads.told ∙ told1) (subst (IsMountOf image) (sym did.mount) of1) in
          held_same (lines_next (node_line image) c.args.first k so_far.later ∙ lines_skipped image c.args.first (k + 1) c.in_ok-nid-2.nid (omega arith) next.later none)
          (held_then (so_far.lines image told of) (gathers_held c.in_ok-gather_node.field-0 c.gather_node.result c.in_ok-gather_node.was step));
      later = omega (arith, so_far.later, next.later);
      within = next.within;
      node = λ image told of.
          next.node image (did.reads.told ∙ so_far.reads.told ∙ told) (subst (IsMountOf image) (sym (did.mount ∙ so_far.mount)) of);
      room = did.room;
      sink = omega (arith, so_far.sink, did.sink.later);
      mount = next.mount ∙ did.mount ∙ so_far.mount;
      reads = reads_then (omega (arith, so_far.goes.later, did.goes.later)) (reads_then so_far.goes.later so_far.reads did.reads) next.reads;
      goes = goes_then (goes_then so_far.goes did.goes) next.goes;
    }

pub returns-clause-lines : goal.returns-clause-lines
returns-clause-lines g c = λ image told of.
    let all : c.loop-nid.nid ≡ c.args.end = omega arith in
    let held = c.loop-nid.invariant.lines image (c.next_node.ensures.reads.told ∙ told) (subst (IsMountOf image) (sym c.next_node.ensures.mount) of) in
    held_gathers (Ok tt) (held_same (ap (lines_between (node_line image) c.args.first) all) held)
