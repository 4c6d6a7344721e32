use Rattle.f2_dump.specs.Trees.{tree_line, is_directory_of}
use Rattle.f2_dump.proofs.Sending.{held_none, held_cut}
use Rattle.f2_dump.proofs.trees.gather_name.Goals as goal

pub returns-in_err-directory-clause-lines : goal.returns-in_err-directory-clause-lines
returns-in_err-directory-clause-lines g c = λ image told of.
    let p = c.args.p.now in
    held_cut (tree_line p.level (is_directory_of image p.ino) p.name) c.from_residual.result c.from_residual.ensures.0 (held_none c.args.text.now.items (g.O.Sink.told c.args.o.now))
