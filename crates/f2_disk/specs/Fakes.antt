-- What the fakes stand for.
use Rattle.f2_disk.specs.declared.memory.MemoryDisk.{MemoryDisk}
use Rattle.std.specs.Prelude.{length}
use Rattle.f2_disk.specs.declared.calm.CalmDisk.{CalmDisk}
use Rattle.f2_disk.specs.Calm.{calm_state}
use Rattle.f2_disk.specs.Disk.{State}
use Rattle.f2_disk.specs.Memory.{Memory}

-- a disk in memory, without its map of blocks
abbrev pub memory_of : MemoryDisk → Memory
memory_of d = record { blocks = d.blocks; events = d.events.items; writes = d.writes; calls = d.calls }

-- a disk that never fails
abbrev pub calm_of : CalmDisk → State
calm_of d = calm_state (length d.blocks.items) d.blocks.items d.pending d.writes
