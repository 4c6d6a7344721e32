use Rattle.std.proofs.Common.{◌+◌, ◌*◌, ◌∙◌, arith}
use Rattle.f2_tables.proofs.Walk.{over_in}
use Rattle.f2_tables.proofs.nat.Nat.table_block.Goals as goal

pub returns-clause-entries : goal.returns-clause-entries
returns-clause-entries g c = λ image told j low.
    c.put_entries.ensures j low
    ∙ over_in c.args.self.now image c.in_ok-block.block c.args.k (455 * c.args.k + j) (c.in_ok-block.ensures.block image told) (omega (arith, low))
