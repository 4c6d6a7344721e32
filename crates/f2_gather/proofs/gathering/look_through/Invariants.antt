use Rattle.std.proofs.Common.{◌≡◌, ◌+◌, ◌++◌, ◌≤◌, ◌<◌, length, take, drop, All, Some}
use Rattle.std.specs.List.Sorted.{IsStrictlyIncreasing}
use Rattle.std.specs.Prelude.{flat_map}
use Rattle.f2_bytes.specs.Bytes.{Image}
use Rattle.f2_bytes.specs.NodeAddressTable.{nid_limit}
use Rattle.f2_disk.specs.Disk.{Reads, Goes}
use Rattle.f2_view.specs.Mounted.{layout_in, IsMountOf}
use Rattle.f2_gather.specs.Gathering.{Shows, AllMain, data_at, node_at, addresses_of}
use Rattle.f2_gather.proofs.gathering.look_through.Given as goal

-- what the blocks at the first addresses are, and what the disk did
abbrev pub invariant-loop-address : goal.invariant-loop-address
invariant-loop-address g l = record {
  mount : l.m ≡ l.initial.m;
  reads : Reads (g.D.Disk.state l.initial.d) (g.D.Disk.state l.d);
  goes : Goes (g.D.Disk.state l.initial.d) (g.D.Disk.state l.d);
  shows : (image : Image) → (g.D.Disk.state l.initial.d).told ≡ Some image → IsMountOf image l.initial.m → Shows image l.initial.held → Shows image l.held;
  data_found : (image : Image) → (g.D.Disk.state l.initial.d).told ≡ Some image → IsMountOf image l.initial.m → Shows image l.initial.held
      → l.into.data.items ≡ l.initial.into.data.items ++ flat_map (data_at image) (take l.address-index l.addrs);
  nodes : (image : Image) → (g.D.Disk.state l.initial.d).told ≡ Some image → IsMountOf image l.initial.m → Shows image l.initial.held
      → l.into.nodes.items ≡ l.initial.into.nodes.items ++ flat_map (node_at image) (take l.address-index l.addrs);
  rises : IsStrictlyIncreasing (addresses_of l.initial.into.data.items ++ l.addrs) → IsStrictlyIncreasing (addresses_of l.into.data.items ++ drop l.address-index l.addrs);
  few_data : length l.into.data.items ≤ length l.initial.into.data.items + l.address-index;
  few_nodes : length l.into.nodes.items ≤ length l.initial.into.nodes.items + l.address-index;
  main : AllMain (layout_in l.initial.m) l.initial.into.data.items → AllMain (layout_in l.initial.m) l.into.data.items;
  below : All (λ n. n < nid_limit (layout_in l.initial.m)) l.initial.into.nodes.items → All (λ n. n < nid_limit (layout_in l.initial.m)) l.into.nodes.items;
}
