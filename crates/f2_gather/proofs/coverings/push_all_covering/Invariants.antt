use Rattle.std.proofs.Common.{◌≡◌, ℕ, ◌+◌, ◌++◌, ◌≤◌, ◌<◌, length, take, All, Some}
use Rattle.std.specs.Prelude.{flat_map}
use Rattle.std.specs.List.Sorted.{IsStrictlyIncreasing}
use Rattle.f2_bytes.specs.Bytes.{Image}
use Rattle.f2_disk.specs.Disk.{Reads, Goes}
use Rattle.f2_view.specs.Mounted.{IsMountOf}
use Rattle.f2_gather.specs.Gathering.{covering_at, addresses_of}
use Rattle.f2_gather.proofs.coverings.push_all_covering.Given as goal

-- those of the first files that cover some of the blocks, and what the disk did
abbrev pub invariant-loop-file : goal.invariant-loop-file
invariant-loop-file g l = record {
  mount : l.m ≡ l.initial.m;
  reads : Reads (g.D.Disk.state l.initial.d) (g.D.Disk.state l.d);
  goes : Goes (g.D.Disk.state l.initial.d) (g.D.Disk.state l.d);
  files : (image : Image) → (g.D.Disk.state l.initial.d).told ≡ Some image → IsMountOf image l.initial.m → IsStrictlyIncreasing (addresses_of l.blocks)
      → l.into.items ≡ l.initial.into.items ++ flat_map (covering_at image (addresses_of l.blocks)) (take l.file-index l.files);
  few : length l.into.items ≤ length l.initial.into.items + l.file-index;
  below : (limit : ℕ) → All (λ n. n < limit) l.files → All (λ n. n < limit) l.initial.into.items → All (λ n. n < limit) l.into.items;
}
