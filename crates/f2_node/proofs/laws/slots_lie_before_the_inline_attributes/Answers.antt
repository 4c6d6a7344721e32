use Rattle.f2_node.proofs.SlotCounts.{slots_before_nids, slots_before_attributes}
use Rattle.f2_node.proofs.laws.slots_lie_before_the_inline_attributes.Goals as goal

pub returns-clause-nids : goal.returns-clause-nids
returns-clause-nids c = slots_before_nids

pub returns-clause-attributes : goal.returns-clause-attributes
returns-clause-attributes c = slots_before_attributes
