use Rattle.f2_disk.proofs.MemorySteps.{current_new}
use Rattle.f2_disk.proofs.memory.MemoryDisk.new.Goals as goal

pub invariant_of-result : goal.invariant_of-result
invariant_of-result c = record { is_current = current_new c.args.blocks c.new.result.items c.new-2.result.entries c.new.ensures.items c.new-2.ensures.empty }
