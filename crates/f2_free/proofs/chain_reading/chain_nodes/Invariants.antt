use Rattle.std.proofs.Common.{◌≡◌, Some, map}
use Rattle.f2_bytes.specs.Bytes.{Image, numbers_below}
use Rattle.f2_free.specs.ChainNodes.{node_read}
use Rattle.f2_free.specs.NodePlaces.{HasTable}
use Rattle.f2_disk.specs.Disk.{Reads, Goes}
use Rattle.f2_roll.specs.Chain.{chain_in}
use Rattle.f2_view.specs.Mounted.{IsMountOf}
use Rattle.f2_free.proofs.chain_reading.chain_nodes.Given as goal

-- the nodes so far, and what the disk did
abbrev pub invariant-loop-address : goal.invariant-loop-address
invariant-loop-address g l = record {
  reads : Reads (g.D.Disk.state l.initial.d) (g.D.Disk.state l.d);
  goes : Goes (g.D.Disk.state l.initial.d) (g.D.Disk.state l.d);
  nodes : (image : Image) → (g.D.Disk.state l.initial.d).told ≡ Some image → IsMountOf image l.m → l.c ≡ chain_in image → HasTable image l.entries
      → l.nodes.items ≡ map (node_read image) (numbers_below l.address-index);
}
