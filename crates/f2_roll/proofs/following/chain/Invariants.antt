use Rattle.std.proofs.Common.{◌≡◌, true, length, Some}
use Rattle.std.specs.List.{list_all}
use Rattle.f2_bytes.specs.Bytes.{Image}
use Rattle.f2_bytes.specs.Checkpoint.{head as head_of}
use Rattle.f2_bytes.specs.Superblock.{layout, is_main}
use Rattle.f2_disk.specs.Disk.{Reads, Goes}
use Rattle.f2_roll.proofs.Walks.{IsWalk}
use Rattle.f2_roll.proofs.following.chain.Given as goal

-- the walk so far, and what the disk did
abbrev pub invariant-loop : goal.invariant-loop
invariant-loop g l = record {
  reads : Reads (g.D.Disk.state l.initial.d) (g.D.Disk.state l.d);
  goes : Goes (g.D.Disk.state l.initial.d) (g.D.Disk.state l.d);
  walk : (image : Image) → (g.D.Disk.state l.initial.d).told ≡ Some image → l.l ≡ layout image → l.head ≡ head_of image → IsWalk image l.counter l.walked l.address;
  within : list_all (is_main l.l) l.walked ≡ true;
  count : length l.walked ≡ l.counter;
}
