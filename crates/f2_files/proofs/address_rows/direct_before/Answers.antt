use Rattle.std.proofs.Common.{arith}
use Rattle.f2_files.proofs.DirectRows.{in-first, in-second, in-third, outside}
use Rattle.f2_files.proofs.address_rows.direct_before.Goals as goal

pub returns-in-1-to-2-clause-row : goal.returns-in-1-to-2-clause-row
returns-in-1-to-2-clause-row c = in-first c.args.offset (omega arith) (omega arith)

pub returns-in-4-to-1021-clause-row : goal.returns-in-4-to-1021-clause-row
returns-in-4-to-1021-clause-row c = in-second c.args.offset (omega arith) (omega arith)

pub returns-in-1023-to-2040-clause-row : goal.returns-in-1023-to-2040-clause-row
returns-in-1023-to-2040-clause-row c = in-third c.args.offset (omega arith) (omega arith)

pub returns-in_default-5-clause-row : goal.returns-in_default-5-clause-row
returns-in_default-5-clause-row c = outside c.args.offset (λ a b. omega arith) (λ a b. omega arith) (λ a b. omega arith) (λ a b. omega arith)
