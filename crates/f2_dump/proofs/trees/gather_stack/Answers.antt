use Rattle.std.proofs.Common.{◌++◌, ◌∙◌, List, [], suc, Ok, ap, sym, subst, refl, arith}
use Rattle.std.proofs.lemmas.List.{append-nil}
use Rattle.f2_disk.proofs.Runs.{reads_then, goes_then, reads_same}
use Rattle.f2_view.specs.Mounted.{IsMountOf}
use Rattle.f2_dump.specs.Stacks.{stack_lines, stack_weight}
use Rattle.f2_dump.specs.Trees.{tree_line, is_directory_of, lines_within}
use Rattle.f2_dump.proofs.Sending.{gathers_then, gathers_held, gathers_cut, gathers_same, held_none, held_then, held_same, held_gathers, goes_same}
use Rattle.f2_dump.proofs.StackLines.{popped, none_left, stack_one, weight_one, walk_on}
use Rattle.f2_dump.proofs.trees.gather_stack.Goals as goal

pub loop-p-init : goal.loop-p-init
loop-p-init g c = record {
  lines = λ image told of. record { lines = []; holds = held_none c.args.text.now.items (g.O.Sink.told c.args.o.now); whole = refl };
  room = c.requires.room;
  sink = omega arith;
  mount = refl;
  reads = reads_same (g.D.Disk.state c.args.d.now);
  goes = goes_same (g.D.Disk.state c.args.d.now);
}

pub loop-p-smaller : goal.loop-p-smaller
loop-p-smaller g c =
    let taken = popped c.loop-p.stack.items c.pop.new.self.items c.pop.result c.in-Some.p c.pop.ensures.items c.in-Some.is in
    omega (arith, ap stack_weight taken, weight_one c.pop.new.self.items c.in-Some.p, c.in_ok-gather_name.ensures.light)

pub loop-p-preserved : goal.loop-p-preserved
loop-p-preserved g c =
    let so_far = c.loop-p.invariant in
    let did = c.gather_name.ensures in
    let p = c.in-Some.p in
    let taken = popped c.loop-p.stack.items c.pop.new.self.items c.pop.result p c.pop.ensures.items c.in-Some.is in
    record {
      lines = λ image told of.
          let told1 = so_far.reads.told ∙ told in
          let of1 = subst (IsMountOf image) (sym so_far.mount) of in
          let walk = so_far.lines image told of in
          let line = tree_line p.level (is_directory_of image p.ino) p.name in
          let below = lines_within p.left image (suc p.level) p.ino in
          let rest = stack_lines image c.pop.new.self.items in
          record {
            lines = walk.lines ++ line;
            holds = held_then walk.holds (gathers_held c.in_ok-gather_name.field-0 c.gather_name.result c.in_ok-gather_name.was (did.lines image told1 of1));
            whole = walk_on walk.lines line below rest (stack_lines image c.loop-p.stack.items) (stack_lines image c.gather_name.new.stack.items) (stack_lines image c.args.stack.now.items)
                walk.whole (ap (stack_lines image) taken ∙ stack_one image c.pop.new.self.items p) (c.in_ok-gather_name.ensures.rest image told1 of1);
          };
      room = did.room;
      sink = omega (arith, so_far.sink, did.sink.later);
      mount = did.mount ∙ so_far.mount;
      reads = reads_then so_far.goes.later so_far.reads did.reads;
      goes = goes_then so_far.goes did.goes;
    }

pub returns-in_err-gather_name-clause-lines : goal.returns-in_err-gather_name-clause-lines
returns-in_err-gather_name-clause-lines g c = λ image told of.
    let so_far = c.loop-p.invariant in
    let p = c.in-Some.p in
    let taken = popped c.loop-p.stack.items c.pop.new.self.items c.pop.result p c.pop.ensures.items c.in-Some.is in
    let walk = so_far.lines image told of in
    let line = tree_line p.level (is_directory_of image p.ino) p.name in
    let below = lines_within p.left image (suc p.level) p.ino in
    let rest = stack_lines image c.pop.new.self.items in
    let step = c.gather_name.ensures.lines image (so_far.reads.told ∙ told) (subst (IsMountOf image) (sym so_far.mount) of) in
    let whole = walk_on walk.lines line below rest (stack_lines image c.loop-p.stack.items) (below ++ rest) (stack_lines image c.args.stack.now.items)
    walk.whole (ap (stack_lines image) taken ∙ stack_one image c.pop.new.self.items p) refl in
    let r = c.from_residual in
    gathers_same r.result whole (gathers_cut (below ++ rest) c.gather_name.result r.result r.ensures.0 (gathers_then c.gather_name.result walk.holds step))

pub returns-clause-lines : goal.returns-clause-lines
returns-clause-lines g c = λ image told of.
    let walk = c.loop-p.invariant.lines image told of in
    let empty = none_left image c.loop-p.stack.items (omega (arith, c.in_default.ensures.cases.0, c.loop-p.stack.ok.0)) in
    held_gathers (Ok tt) (held_same (sym (append-nil walk.lines) ∙ ap (λ (l : List _). walk.lines ++ l) (sym empty) ∙ walk.whole) walk.holds)
