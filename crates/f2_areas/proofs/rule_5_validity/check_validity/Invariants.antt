use Rattle.f2_bytes.specs.Bytes.{Image}
use Rattle.f2_survey.specs.OwnerTables.{IsOwners}
use Rattle.f2_survey.specs.Parts.{part_in}
use Rattle.f2_survey.specs.Segments.{HasTable}
use Rattle.f2_areas.specs.Walked.{HasWalked}
use Rattle.f2_view.specs.Mounted.{IsMountOf}
use Rattle.f2_areas.proofs.rule_5_validity.check_validity.Given as goal

-- the comparisons of the segments so far
abbrev pub invariant-loop-segno : goal.invariant-loop-segno
invariant-loop-segno l = record {
  marks : (image : Image) → IsMountOf image l.m → HasTable image l.entries → IsOwners image l.owners → HasWalked l.v.marks (part_in image 5 1) l.segno 0;
  counts : (image : Image) → IsMountOf image l.m → HasTable image l.entries → IsOwners image l.owners → HasWalked l.v.counts (part_in image 5 2) l.segno 0;
  kinds : (image : Image) → IsMountOf image l.m → HasTable image l.entries → IsOwners image l.owners → HasWalked l.v.kinds (part_in image 5 3) l.segno 0;
}
