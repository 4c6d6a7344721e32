use Rattle.std.proofs.Common.{◌≡◌, ℕ, Some, map, take}
use Rattle.f2_bytes.specs.Bytes.{Block, Image}
use Rattle.f2_disk.specs.Disk.{Reads, Goes}
use Rattle.f2_tables.specs.Tables.{sit_in}
use Rattle.f2_change.specs.Change.{sit_other_address}
use Rattle.f2_change.specs.TableBlocks.{IsSitBlock, AreEach}
use Rattle.f2_change.proofs.tables.sit_blocks.Given as goal

-- the first blocks, and what the disk did
abbrev pub invariant-loop-k : goal.invariant-loop-k
invariant-loop-k g l = record {
  reads : Reads (g.D.Disk.state l.fn.d) (g.D.Disk.state l.d);
  goes : Goes (g.D.Disk.state l.fn.d) (g.D.Disk.state l.d);
  table : l.sit ≡ l.fn.sit;
  addresses : map (λ (w : ℕ × Block). w.0) l.written.items ≡ map (sit_other_address l.l l.bits) (take l.k-index l.blocks);
  entries : (image : Image) → (g.D.Disk.state l.fn.d).told ≡ Some image → AreEach (IsSitBlock l.l.segments (sit_in l.fn.sit image)) (take l.k-index l.blocks) l.written.items;
}
