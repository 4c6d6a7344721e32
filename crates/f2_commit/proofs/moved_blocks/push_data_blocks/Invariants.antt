use Rattle.std.proofs.Common.{◌≡◌, ℕ, ◌++◌, All, Some, true}
use Rattle.f2_bytes.specs.Bytes.{Block, Image}
use Rattle.f2_bytes.specs.Superblock.{is_main}
use Rattle.f2_disk.specs.Disk.{Reads, Goes}
use Rattle.f2_gather.specs.Gathering.{addresses_of}
use Rattle.f2_commit.proofs.PlacedBlocks.{data_so_far}
use Rattle.f2_commit.proofs.moved_blocks.push_data_blocks.Given as goal

-- the first blocks, and what the disk did
abbrev pub invariant-loop-n : goal.invariant-loop-n
invariant-loop-n g l = record {
  reads : Reads (g.D.Disk.state l.initial.d) (g.D.Disk.state l.d);
  goes : Goes (g.D.Disk.state l.initial.d) (g.D.Disk.state l.d);
  blocks : (image : Image) → (g.D.Disk.state l.initial.d).told ≡ Some image → l.into.items ≡ l.initial.into.items ++ data_so_far image l.l l.targets (addresses_of l.moved) l.n;
  main : All (λ (w : ℕ × Block). is_main l.l w.0 ≡ true) l.initial.into.items → All (λ (w : ℕ × Block). is_main l.l w.0 ≡ true) l.into.items;
}
