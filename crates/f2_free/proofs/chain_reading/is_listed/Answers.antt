use Rattle.std.proofs.Common.{sym, ◌∙◌, arith}
use Rattle.f2_free.proofs.FoundPlaces.{listed-table, past-table}
use Rattle.f2_free.proofs.chain_reading.is_listed.Goals as goal

pub returns-then-at-entries : goal.returns-then-at-entries
returns-then-at-entries c = λ image has. sym (past-table image c.args.entries.now c.args.nid has (omega arith))

pub returns : goal.returns
returns c = λ image has. c.is_node.ensures ∙ listed-table image c.args.entries.now c.args.nid _ has (omega arith)
