use Rattle.f2_bytes.proofs.MovedLaw.{moved_keeps_tree}
use Rattle.f2_bytes.proofs.MovedSlots.{moved_slots}
use Rattle.f2_bytes.proofs.laws.moved_blocks_keep_the_tree.Goals as goal

pub returns : goal.returns
returns c = record { tree = moved_keeps_tree; slots = moved_slots }
