use Rattle.f2_bytes.specs.Bytes.{Image}
use Rattle.f2_survey.specs.Parts.{part_in}
use Rattle.f2_survey.specs.Segments.{HasTable}
use Rattle.f2_areas.specs.Walked.{HasWalked}
use Rattle.f2_view.specs.Mounted.{IsMountOf}
use Rattle.f2_areas.proofs.rule_8_logs.write_defects.Given as goal

-- the blocks of the logs so far were compared
abbrev pub invariant-loop-t : goal.invariant-loop-t
invariant-loop-t l = record {
  next : (image : Image) → IsMountOf image l.m → HasTable image l.entries → HasWalked l.next (part_in image 8 3) l.t 0;
  later : (image : Image) → IsMountOf image l.m → HasTable image l.entries → HasWalked l.later (part_in image 8 4) l.t 0;
}
