use Rattle.std.proofs.Common.{◌++◌}
use Rattle.f2_dump.specs.Trees.{printed_name, line_end, tree_line}
use Rattle.f2_dump.proofs.Sending.{gathers_then, gathers_held, gathers_cut}
use Rattle.f2_dump.proofs.printing.gather_line.Goals as goal

pub returns-in_err-gather_indent-clause-lines : goal.returns-in_err-gather_indent-clause-lines
unfolding tree_line
returns-in_err-gather_indent-clause-lines g c =
    gathers_cut (printed_name c.args.name.now ++ line_end c.args.directory) c.gather_indent.result c.from_residual.result c.from_residual.ensures.0 c.gather_indent.ensures.lines

pub returns-clause-lines : goal.returns-clause-lines
unfolding tree_line
returns-clause-lines g c =
    let held = gathers_held c.in_ok-gather_indent.field-0 c.gather_indent.result c.in_ok-gather_indent.was c.gather_indent.ensures.lines in
    gathers_then c.keep_room.result held (c.keep_room.ensures.text c.gather_indent.new.text.items (printed_name c.args.name.now ++ line_end c.args.directory) c.push_end-pushed.ensures.line)
