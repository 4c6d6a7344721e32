use Rattle.std.proofs.Common.{◌≡◌, ◌≤◌, ◌+◌, Some, length}
use Rattle.f2_bytes.specs.Bytes.{Image}
use Rattle.f2_disk.specs.Disk.{Reads, Goes}
use Rattle.f2_view.specs.Mounted.{IsMountOf}
use Rattle.f2_dump.specs.declared.gathering.TheConstants.{PIECE}
use Rattle.f2_dump.specs.declared.walking.TheConstants.{BLOCK}
use Rattle.f2_dump.specs.Files.{inode_of}
use Rattle.f2_dump.specs.Text.{lines_below}
use Rattle.f2_dump.specs.Walk.{IsFileOf, IsReached, part}
use Rattle.f2_dump.proofs.Sending.{Holds}
use Rattle.f2_dump.proofs.blocks.gather_blocks.Given as goal

-- the bytes so far, and what the disk did
abbrev pub invariant-loop-k : goal.invariant-loop-k
invariant-loop-k g l = record {
  lines : (image : Image) → (g.D.Disk.state l.initial.d).told ≡ Some image → IsMountOf image l.initial.m
      → IsFileOf image l.fn.file → inode_of image l.fn.file.ino ≡ Some l.fn.inode
      → Holds (lines_below (part image l.fn.file.ino l.fn.file.size) l.k) l.initial.text.items l.text.items (g.O.Sink.told l.initial.o) (g.O.Sink.told l.o);
  reached : (image : Image) → (g.D.Disk.state l.initial.d).told ≡ Some image → IsMountOf image l.initial.m
      → inode_of image l.fn.file.ino ≡ Some l.fn.inode → IsReached image l.fn.file.ino l.at;
  room : length l.text.items + BLOCK ≤ PIECE;
  sink : g.O.Sink.faults l.initial.o ≤ g.O.Sink.faults l.o;
  mount : l.m ≡ l.initial.m;
  reads : Reads (g.D.Disk.state l.initial.d) (g.D.Disk.state l.d);
  goes : Goes (g.D.Disk.state l.initial.d) (g.D.Disk.state l.d);
}
