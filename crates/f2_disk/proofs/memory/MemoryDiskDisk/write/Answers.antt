use Rattle.std.proofs.Common.{arith}
use Rattle.f2_disk.proofs.MemorySteps.{current_done, writes_done, goes_done}
use Rattle.f2_disk.proofs.memory.MemoryDiskDisk.write.Goals as goal

pub invariant_of-self-in-Ok : goal.invariant_of-self-in-Ok
invariant_of-self-in-Ok c =
    let d = c.args.self.now in
    record { is_current = current_done d.blocks d.events.items c.keep_write.new.events.items d.current.entries c.keep_write.new.current.entries c.args.at c.args.from.now c.requires c.bytes-bytes.ensures.block d.is_current c.in-Ok.ensures.done c.in-Ok.ensures.put }

pub returns-in-Ok-clause-writes : goal.returns-in-Ok-clause-writes
returns-in-Ok-clause-writes c =
    let d = c.args.self.now in
    writes_done d.blocks d.events.items c.keep_write.new.events.items c.args.at c.args.from.now d.writes c.saturating_add-self.result d.calls c.begin.new.self c.in-Ok.ensures.done (omega (arith, c.saturating_add-self.ensures))

pub returns-in-Ok-clause-goes : goal.returns-in-Ok-clause-goes
returns-in-Ok-clause-goes c =
    let d = c.args.self.now in
    goes_done d.blocks d.events.items c.keep_write.new.events.items c.args.at c.args.from.now d.writes c.saturating_add-self.result d.calls c.begin.new.self c.in-Ok.ensures.done (omega (arith, c.saturating_add-self.ensures)) c.begin.ensures.later
