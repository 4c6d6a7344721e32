use Rattle.std.proofs.Common.{◌∙◌}
use Rattle.f2_super.proofs.NewCopies.{then-kept, then-right}
use Rattle.f2_super.proofs.making.put_checksum.Goals as goal

pub returns-then-features-eq1-clause-right : goal.returns-then-features-eq1-clause-right
returns-then-features-eq1-clause-right c on = then-right c.args.c.now c.set_row.new.c c.from.result c.requires c.set_row.ensures.bytes c.set_row.ensures.read (c.from.ensures ∙ c.front_sum-sum.ensures)

pub returns-then-features-eq1-clause-others : goal.returns-then-features-eq1-clause-others
returns-then-features-eq1-clause-others c = then-kept c.args.c.now c.set_row.new.c _ c.requires c.set_row.ensures.bytes
