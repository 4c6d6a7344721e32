use Rattle.std.proofs.Common.{◌≡◌, ◌++◌, Some, List}
use Rattle.std.specs.Prelude.{filter_map}
use Rattle.f2_bytes.specs.Bytes.{Image, numbers_below}
use Rattle.f2_disk.specs.Disk.{Reads, Goes}
use Rattle.f2_view.specs.Mounted.{IsMountOf}
use Rattle.f2_files.specs.Files.{HasSlots}
use Rattle.f2_survey.specs.Known.{IsKnown}
use Rattle.f2_survey.specs.Slots.{Slot, slot_in_row}
use Rattle.f2_files.proofs.files.Files.row.Given as goal

-- the slots in the first words, and what the disk did
abbrev pub invariant-loop-j : goal.invariant-loop-j
invariant-loop-j g l = record {
  reads : Reads (g.D.Disk.state l.initial.d) (g.D.Disk.state l.d);
  goes : Goes (g.D.Disk.state l.initial.d) (g.D.Disk.state l.d);
  takes : (image : Image) (slots : List Slot) → (g.D.Disk.state l.initial.d).told ≡ Some image → IsMountOf image l.m → IsKnown image l.nodes
      → HasSlots image l.row.ino slots l.initial.self → HasSlots image l.row.ino (slots ++ filter_map (slot_in_row l.row) (numbers_below l.j)) l.self;
}
