use Rattle.f2_disk.proofs.MemorySteps.{syncs_done, synced_goes}
use Rattle.f2_disk.proofs.memory.MemoryDiskDisk.sync.Goals as goal

pub returns-in-Ok-clause-syncs : goal.returns-in-Ok-clause-syncs
returns-in-Ok-clause-syncs c =
    let d = c.args.self.now in
    syncs_done d.blocks d.events.items c.push.new.self.items d.writes d.calls c.begin.new.self c.in-Ok.ensures.items

pub returns-in-Ok-clause-goes : goal.returns-in-Ok-clause-goes
returns-in-Ok-clause-goes c =
    let d = c.args.self.now in
    synced_goes d.blocks d.events.items c.push.new.self.items d.writes d.calls c.begin.new.self c.in-Ok.ensures.items c.begin.ensures.later
