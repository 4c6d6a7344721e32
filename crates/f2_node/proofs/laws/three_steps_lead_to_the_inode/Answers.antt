use Rattle.f2_node.proofs.Steps.{nodes_reach, located_reach}
use Rattle.f2_node.proofs.laws.three_steps_lead_to_the_inode.Goals as goal

pub returns-clause-nodes : goal.returns-clause-nodes
returns-clause-nodes c = nodes_reach

pub returns-clause-blocks : goal.returns-clause-blocks
returns-clause-blocks c = located_reach
