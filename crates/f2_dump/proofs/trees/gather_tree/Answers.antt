use Rattle.std.proofs.Common.{◌∙◌, ap, sym, subst}
use Rattle.f2_bytes.specs.NodeAddressTable.{nid_limit}
use Rattle.f2_view.specs.Mounted.{IsMountOf}
use Rattle.f2_dump.specs.Trees.{tree_lines}
use Rattle.f2_dump.proofs.Nodes.{layout_same}
use Rattle.f2_dump.proofs.Sending.{held_none, held_cut, gathers_same}
use Rattle.f2_dump.proofs.StackLines.{root_lines}
use Rattle.f2_dump.proofs.trees.gather_tree.Goals as goal

pub returns-in_err-push_directory-clause-lines : goal.returns-in_err-push_directory-clause-lines
returns-in_err-push_directory-clause-lines g c = λ image told of.
    held_cut (tree_lines image) c.from_residual.result c.from_residual.ensures.0 (held_none c.args.text.now.items (g.O.Sink.told c.args.o.now))

pub returns-clause-lines : goal.returns-clause-lines
returns-clause-lines g c = λ image told of.
    let limit = c.nid_limit-levels.ensures ∙ ap nid_limit (layout_same image c.args.m.now of) in
    let pushed = c.in_ok-push_directory.ensures.lines image told of in
    let all = root_lines image c.nid_limit-levels.result c.push_directory.new.stack.items c.new-stack.result.items limit c.new-stack.ensures.items pushed in
    gathers_same c.gather_stack.result all
    (c.gather_stack.ensures.lines image (c.push_directory.ensures.reads.told ∙ told) (subst (IsMountOf image) (sym c.push_directory.ensures.mount) of))
