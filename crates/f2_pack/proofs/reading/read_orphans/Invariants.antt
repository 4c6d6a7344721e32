use Rattle.std.proofs.Common.{◌≡◌, ◌+◌, ◌-◌, ◌≤◌, Some}
use Rattle.std.specs.Prelude.{flat_map}
use Rattle.std.specs.List.{range_with_len}
use Rattle.f2_bytes.specs.Bytes.{Image, block_at}
use Rattle.f2_bytes.specs.Checkpoint.{orphans_in}
use Rattle.f2_disk.specs.Disk.{Reads, Goes}
use Rattle.f2_pack.proofs.reading.read_orphans.Given as goal

-- the numbers in the blocks so far, and what the disk did
abbrev pub invariant-loop-j : goal.invariant-loop-j
invariant-loop-j g l = record {
  first : 1 ≤ l.j;
  reads : Reads (g.D.Disk.state l.initial.d) (g.D.Disk.state l.d);
  goes : Goes (g.D.Disk.state l.initial.d) (g.D.Disk.state l.d);
  orphans : (image : Image) → (g.D.Disk.state l.initial.d).told ≡ Some image → l.orphans.items ≡ flat_map (λ j. orphans_in (block_at image (l.pack + j))) (range_with_len 1 (l.j - 1));
}
