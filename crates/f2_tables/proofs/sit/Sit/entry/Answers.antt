use Rattle.std.proofs.Common.{sym, ap, ◌∙◌}
use Rattle.std.specs.Prelude.{option_map}
use Rattle.f2_sum.specs.Records.{sit_entry}
use Rattle.f2_tables.proofs.sit.Sit.entry.Goals as goal

pub returns-in-Some-clause-fits : goal.returns-in-Some-clause-fits
returns-in-Some-clause-fits c =
    c.self.invariant.fits c.args.segno (sit_entry c.in-Some.entry) (ap (option_map sit_entry) (sym c.get.ensures ∙ c.in-Some.is))
