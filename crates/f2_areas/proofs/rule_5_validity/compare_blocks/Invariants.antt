use Rattle.f2_bytes.specs.Bytes.{Image}
use Rattle.f2_survey.specs.Parts.{part_in}
use Rattle.f2_survey.specs.Segments.{IsSegment}
use Rattle.f2_areas.specs.Walked.{HasWalked}
use Rattle.f2_sum.specs.Records.{sit_entry}
use Rattle.f2_areas.proofs.rule_5_validity.compare_blocks.Given as goal

-- the comparisons so far
abbrev pub invariant-loop-k : goal.invariant-loop-k
invariant-loop-k l = record {
  marks : (image : Image) → IsSegment image l.owners l.segno l.first (sit_entry l.entry) → HasWalked l.initial.marks (part_in image 5 1) l.segno 0 → HasWalked l.marks (part_in image 5 1) l.segno l.k;
  kinds : (image : Image) → IsSegment image l.owners l.segno l.first (sit_entry l.entry) → HasWalked l.initial.kinds (part_in image 5 3) l.segno 0 → HasWalked l.kinds (part_in image 5 3) l.segno l.k;
}
