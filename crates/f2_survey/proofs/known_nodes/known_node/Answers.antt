use Rattle.std.proofs.Common.{Some, None, ◌∙◌}
use Rattle.f2_sum.specs.Records.{nat_entry}
use Rattle.f2_survey.proofs.EntryReads.{by_entry}
use Rattle.f2_survey.proofs.known_nodes.known_node.Goals as goal

pub returns-in-None-clause-node : goal.returns-in-None-clause-node
returns-in-None-clause-node g c = λ image told of known. by_entry image c.args.nid None (c.in-None.ensures image known)

pub returns-clause-node : goal.returns-clause-node
returns-clause-node g c = λ image told of known.
    by_entry image c.args.nid (Some (nat_entry c.in-Some.entry)) (c.in-Some.ensures image known)
    ∙ c.in_ok-found.ensures.block image told of
