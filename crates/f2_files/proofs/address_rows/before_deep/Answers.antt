use Rattle.f2_files.proofs.DirectRows.{in-deep}
use Rattle.f2_files.proofs.address_rows.before_deep.Goals as goal

pub returns-clause-row : goal.returns-clause-row
returns-clause-row c = in-deep c.args.past c.requires c.if-place-eq0.false
