use Rattle.std.proofs.Common.{◌+◌, ◌*◌, ◌∙◌, arith}
use Rattle.f2_tables.proofs.Walk.{sit_over_in}
use Rattle.f2_tables.proofs.sit.Sit.table_block.Goals as goal

pub returns-clause-entries : goal.returns-clause-entries
returns-clause-entries g c = λ image told j low below.
    c.put_entries.ensures j low below
    ∙ sit_over_in c.args.self.now image c.in_ok-block.block c.args.k (55 * c.args.k + j) (c.in_ok-block.ensures.block image told) (omega (arith, low))
