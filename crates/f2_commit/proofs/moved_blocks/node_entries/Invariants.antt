use Rattle.std.proofs.Common.{◌≡◌, ℕ, map, take, All, Some, true}
use Rattle.f2_bytes.specs.Bytes.{Image}
use Rattle.f2_bytes.specs.NodeAddressTable.{image_nat_entry}
use Rattle.f2_bytes.specs.Superblock.{is_main}
use Rattle.f2_disk.specs.Disk.{Reads, Goes}
use Rattle.f2_sum.specs.Records.{nat_entry}
use Rattle.f2_sum.specs.declared.records.NatEntry.{NatEntry}
use Rattle.f2_view.specs.Mounted.{layout_in, IsMountOf}
use Rattle.f2_commit.proofs.moved_blocks.node_entries.Given as goal

-- the first entries, and what the disk did
abbrev pub invariant-loop-nid : goal.invariant-loop-nid
invariant-loop-nid g l = record {
  mount : l.m ≡ l.fn.m;
  reads : Reads (g.D.Disk.state l.fn.d) (g.D.Disk.state l.d);
  goes : Goes (g.D.Disk.state l.fn.d) (g.D.Disk.state l.d);
  entries : (image : Image) → (g.D.Disk.state l.fn.d).told ≡ Some image → IsMountOf image l.fn.m → map (λ (w : ℕ × NatEntry). nat_entry w.1) l.entries.items ≡ map (image_nat_entry image) (take l.nid-index l.nids);
  nids : map (λ (w : ℕ × NatEntry). w.0) l.entries.items ≡ take l.nid-index l.nids;
  main : All (λ (w : ℕ × NatEntry). is_main (layout_in l.fn.m) w.1.addr ≡ true) l.entries.items;
}
