use Rattle.std.proofs.Common.{◌≡◌, ◌++◌, List, take, Some}
use Rattle.std.specs.Prelude.{filter_map}
use Rattle.f2_bytes.specs.Bytes.{Image}
use Rattle.f2_files.specs.Files.{IsInside}
use Rattle.f2_survey.specs.Known.{IsKnown}
use Rattle.f2_survey.specs.Named.{name_row}
use Rattle.f2_survey.specs.Slots.{Row}
use Rattle.f2_disk.specs.Disk.{Reads, Goes}
use Rattle.f2_view.specs.Mounted.{IsMountOf}
use Rattle.f2_tour.proofs.file_rows.give_nodes.Given as goal

-- the rows that the first names lead to, and what the disk did
abbrev pub invariant-loop-name : goal.invariant-loop-name
invariant-loop-name g l = record {
  reads : Reads (g.D.Disk.state l.initial.d) (g.D.Disk.state l.d);
  goes : Goes (g.D.Disk.state l.initial.d) (g.D.Disk.state l.d);
  rows : (image : Image) (rows : List Row) → (g.D.Disk.state l.initial.d).told ≡ Some image → IsMountOf image l.m → IsKnown image l.nodes
      → IsInside image l.ino rows l.initial.files → IsInside image l.ino (rows ++ filter_map (name_row image l.ino l.inode) (take l.name-index l.names)) l.files;
}
