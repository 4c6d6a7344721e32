use Rattle.std.proofs.Common.{rules}
use Rattle.f2_super.proofs.NewSizes.{are_sizes}
use Rattle.f2_super.proofs.making.row_values.Goals as goal

pub returns-clause-fits : goal.returns-clause-fits
returns-clause-fits c =
    let s = are_sizes c.args.g.now c.requires in
    let blocks = s.blocks in
    let inside = s.inside in
    search (rules) depth 40
