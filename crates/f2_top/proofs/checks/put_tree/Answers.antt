use Rattle.std.proofs.Common.{take}
use Rattle.f2_dump.specs.Trees.{tree_lines}
use Rattle.f2_top.proofs.checks.put_tree.Goals as goal

pub returns-in-Err-DiskFault-clause-lines : goal.returns-in-Err-DiskFault-clause-lines
returns-in-Err-DiskFault-clause-lines g c = λ image told' of had told.
    let cut = (c.dump_tree.ensures.lines image told' of).part had told in
    (take cut.0 (tree_lines image), (cut.0, λ _. take cut.0 (tree_lines image)), cut.1)

pub returns-in-Err-SinkFault-clause-lines : goal.returns-in-Err-SinkFault-clause-lines
returns-in-Err-SinkFault-clause-lines g c = λ image told' of had told.
    let cut = (c.dump_tree.ensures.lines image told' of).part had told in
    (take cut.0 (tree_lines image), (cut.0, λ _. take cut.0 (tree_lines image)), cut.1)

pub returns-in-Err-clause-lines : goal.returns-in-Err-clause-lines
returns-in-Err-clause-lines g c = λ image told' of had told.
    let cut = (c.dump_tree.ensures.lines image told' of).part had told in
    (take cut.0 (tree_lines image), (cut.0, λ _. take cut.0 (tree_lines image)), cut.1)
