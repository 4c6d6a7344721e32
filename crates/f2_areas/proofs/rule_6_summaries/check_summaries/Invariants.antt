use Rattle.std.proofs.Common.{◌≡◌, Some}
use Rattle.f2_bytes.specs.Bytes.{Image}
use Rattle.f2_survey.specs.OwnerTables.{IsOwners}
use Rattle.f2_survey.specs.Parts.{part_in}
use Rattle.f2_survey.specs.Segments.{HasTable}
use Rattle.f2_areas.specs.Walked.{HasWalked}
use Rattle.f2_disk.specs.Disk.{Reads, Goes}
use Rattle.f2_view.specs.Mounted.{IsMountOf}
use Rattle.f2_areas.proofs.rule_6_summaries.check_summaries.Given as goal

-- the comparisons of the segments so far, and what the disk did
abbrev pub invariant-loop-segno : goal.invariant-loop-segno
invariant-loop-segno g l = record {
  mount : l.m ≡ l.initial.m;
  reads : Reads (g.D.Disk.state l.initial.d) (g.D.Disk.state l.d);
  goes : Goes (g.D.Disk.state l.initial.d) (g.D.Disk.state l.d);
  nids : (image : Image) → (g.D.Disk.state l.initial.d).told ≡ Some image → IsMountOf image l.initial.m → HasTable image l.entries → IsOwners image l.owners
      → HasWalked l.s.nids (part_in image 6 1) l.segno 0;
  places : (image : Image) → (g.D.Disk.state l.initial.d).told ≡ Some image → IsMountOf image l.initial.m → HasTable image l.entries → IsOwners image l.owners
      → HasWalked l.s.places (part_in image 6 2) l.segno 0;
  types : (image : Image) → (g.D.Disk.state l.initial.d).told ≡ Some image → IsMountOf image l.initial.m → HasTable image l.entries → IsOwners image l.owners
      → HasWalked l.s.types (part_in image 6 3) l.segno 0;
}
