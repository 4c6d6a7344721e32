use Rattle.std.proofs.Common.{◌≡◌, ◌+◌, ◌++◌, ◌≤◌, ◌<◌, length, take, All, Some}
use Rattle.std.specs.Prelude.{flat_map}
use Rattle.f2_bytes.specs.Bytes.{Image}
use Rattle.f2_bytes.specs.NodeAddressTable.{nid_limit}
use Rattle.f2_disk.specs.Disk.{Reads, Goes}
use Rattle.f2_view.specs.Mounted.{layout_in, IsMountOf}
use Rattle.f2_gather.specs.Gathering.{file_at}
use Rattle.f2_gather.proofs.coverings.push_files.Given as goal

-- the files of the first nodes, and what the disk did
abbrev pub invariant-loop-nid : goal.invariant-loop-nid
invariant-loop-nid g l = record {
  mount : l.m ≡ l.initial.m;
  reads : Reads (g.D.Disk.state l.initial.d) (g.D.Disk.state l.d);
  goes : Goes (g.D.Disk.state l.initial.d) (g.D.Disk.state l.d);
  files : (image : Image) → (g.D.Disk.state l.initial.d).told ≡ Some image → IsMountOf image l.initial.m → l.into.items ≡ l.initial.into.items ++ flat_map (file_at image) (take l.nid-index l.nids);
  few : length l.into.items ≤ length l.initial.into.items + l.nid-index;
  below : All (λ n. n < nid_limit (layout_in l.initial.m)) l.initial.into.items → All (λ n. n < nid_limit (layout_in l.initial.m)) l.into.items;
}
