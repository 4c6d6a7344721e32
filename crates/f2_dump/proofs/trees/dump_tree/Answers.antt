use Rattle.std.proofs.Common.{ℕ, List, subst}
use Rattle.f2_dump.specs.Dump.{Gathers, Dumps}
use Rattle.f2_dump.specs.Trees.{tree_lines}
use Rattle.f2_dump.proofs.Sending.{dumps_all}
use Rattle.f2_dump.proofs.trees.dump_tree.Goals as goal

pub returns-clause-lines : goal.returns-clause-lines
returns-clause-lines g c = λ image told of.
    let lines = tree_lines image in
    let walk = c.gather_tree-answer in
    let before = g.O.Sink.told c.args.o.now in
    let mid = g.O.Sink.told walk.new.o in
    let text = walk.new.text.items in
    let gathered = subst (λ (l : List ℕ). Gathers {T = Unit {0}} lines l text before mid walk.result) c.in_ok-text.ensures.items (walk.ensures.lines image told of) in
    let put = subst (λ (l : List ℕ). Dumps {T = Unit {0}} l mid (g.O.Sink.told c.finish.new.o) c.finish.result) c.deref.ensures.value c.finish.ensures.text in
    dumps_all walk.result c.finish.result c.finish.ensures.ends gathered put
