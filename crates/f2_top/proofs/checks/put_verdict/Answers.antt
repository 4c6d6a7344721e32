use Rattle.std.specs.Prelude.{not, []}
use Rattle.f2_top.proofs.Alone.{defects_have_lines}
use Rattle.f2_top.proofs.checks.put_verdict.Goals as goal

pub returns-in-Clean-clause-lines : goal.returns-in-Clean-clause-lines
returns-in-Clean-clause-lines g c = λ image told of. rw c.in-Clean.is (c.put_clean.ensures.lines image told of)

pub returns-in-Defects-clause-lines : goal.returns-in-Defects-clause-lines
returns-in-Defects-clause-lines g c = λ image told of. rw (c.in-Defects.is, ← c.deref.ensures.value) (c.put_defects.ensures.lines [])

pub returns-in-Defects-clause-silent : goal.returns-in-Defects-clause-silent
returns-in-Defects-clause-silent g c = λ alone.
    absurd (defects_have_lines (not c.args.tree) c.in-Defects.rule c.in-Defects.count c.put_defects.result c.put_defects.ensures.kind alone)
