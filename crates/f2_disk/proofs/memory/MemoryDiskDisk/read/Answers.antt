use Rattle.f2_disk.proofs.MemorySteps.{read_none}
use Rattle.f2_disk.proofs.memory.MemoryDiskDisk.read.Goals as goal

pub returns-in-None-clause-block : goal.returns-in-None-clause-block
returns-in-None-clause-block c = λ image told.
    let d = c.args.self.now in
    read_none d.blocks d.events.items d.current.entries c.args.at c.zeros.result image c.requires d.is_current c.zeros.ensures c.in-None.ensures.value told
