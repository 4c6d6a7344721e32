use Rattle.std.proofs.Common.{◌≡◌, ◌+◌, map, length, Some}
use Rattle.std.specs.List.{range_with_len}
use Rattle.f2_bytes.specs.Bytes.{Image, block_at}
use Rattle.f2_disk.specs.Disk.{Reads, Goes}
use Rattle.f2_pack.proofs.reading.read_blocks.Given as goal

-- the blocks so far, and what the disk did
abbrev pub invariant-loop-k : goal.invariant-loop-k
invariant-loop-k g l = record {
  reads : Reads (g.D.Disk.state l.initial.d) (g.D.Disk.state l.d);
  goes : Goes (g.D.Disk.state l.initial.d) (g.D.Disk.state l.d);
  count : length l.blocks.items ≡ l.k;
  blocks : (image : Image) → (g.D.Disk.state l.initial.d).told ≡ Some image → l.blocks.items ≡ map (λ j. block_at image (l.pack + j)) (range_with_len l.start l.k);
}
