use Rattle.f2_bytes.specs.Bytes.{Image}
use Rattle.f2_areas.specs.LogSegments.{FillsSegment}
use Rattle.f2_survey.specs.Parts.{part_in}
use Rattle.f2_areas.specs.Walked.{HasWalked}
use Rattle.f2_pack.specs.Logs.{log_of}
use Rattle.f2_sum.specs.Records.{sit_entry}
use Rattle.f2_areas.proofs.rule_8_logs.compare_blocks.Given as goal

-- the blocks so far were compared
abbrev pub invariant-loop-k : goal.invariant-loop-k
invariant-loop-k l = record {
  next : (image : Image) → FillsSegment image l.t (log_of l.at) (sit_entry l.entry) → HasWalked l.initial.next (part_in image 8 3) l.t 0 → HasWalked l.next (part_in image 8 3) l.t l.k;
  later : (image : Image) → FillsSegment image l.t (log_of l.at) (sit_entry l.entry) → HasWalked l.initial.later (part_in image 8 4) l.t 0 → HasWalked l.later (part_in image 8 4) l.t l.k;
}
