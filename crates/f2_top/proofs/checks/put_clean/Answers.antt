use Rattle.std.proofs.Common.{subst}
use Rattle.std.specs.Prelude.{not}
use Rattle.f2_top.specs.Answers.{IsLastAlone}
use Rattle.f2_top.proofs.Alone.{done_has_lines}
use Rattle.f2_top.proofs.checks.put_clean.Goals as goal

pub returns-then-tree-clause-lines : goal.returns-then-tree-clause-lines
returns-then-tree-clause-lines g c = λ image told of. rw c.if-tree.true (c.put_tree.ensures.lines image told of)

pub returns-then-tree-clause-silent : goal.returns-then-tree-clause-silent
returns-then-tree-clause-silent g c = λ alone.
    absurd (done_has_lines c.put_tree.result c.put_tree.ensures.kind (subst (λ t. IsLastAlone (not t) c.put_tree.result) c.if-tree.true alone))
