use Rattle.std.proofs.Common.{◌≡◌, ℕ, Some, map, take}
use Rattle.f2_bytes.specs.Bytes.{Block, Image}
use Rattle.f2_disk.specs.Disk.{Reads, Goes}
use Rattle.f2_tables.specs.Tables.{nat_in}
use Rattle.f2_change.specs.Change.{nat_other_address}
use Rattle.f2_change.specs.TableBlocks.{IsNatBlock, AreEach}
use Rattle.f2_change.proofs.tables.nat_blocks.Given as goal

-- the first blocks, and what the disk did
abbrev pub invariant-loop-k : goal.invariant-loop-k
invariant-loop-k g l = record {
  reads : Reads (g.D.Disk.state l.fn.d) (g.D.Disk.state l.d);
  goes : Goes (g.D.Disk.state l.fn.d) (g.D.Disk.state l.d);
  table : l.nat ≡ l.fn.nat;
  addresses : map (λ (w : ℕ × Block). w.0) l.written.items ≡ map (nat_other_address l.l l.bits) (take l.k-index l.blocks);
  entries : (image : Image) → (g.D.Disk.state l.fn.d).told ≡ Some image → AreEach (IsNatBlock (nat_in l.fn.nat image)) (take l.k-index l.blocks) l.written.items;
}
