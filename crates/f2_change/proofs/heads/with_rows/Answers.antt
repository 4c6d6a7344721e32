use Rattle.std.proofs.Common.{◌∙◌, subst}
use Rattle.f2_change.specs.Heads.{PutsRows}
use Rattle.f2_change.proofs.heads.with_rows.Goals as goal

pub returns-clause-rows : goal.returns-clause-rows
returns-clause-rows c =
    subst (λ rows. PutsRows rows c.args.old.now c.put_rows.new.b) c.next_rows.ensures.rows
    (subst (λ b. PutsRows c.next_rows.result b c.put_rows.new.b) (c.copy_from_slice.ensures.after ∙ c.bytes.ensures.same) c.put_rows.ensures)

pub returns-clause-size : goal.returns-clause-size
returns-clause-size c = c.bytes.ensures.block.length
