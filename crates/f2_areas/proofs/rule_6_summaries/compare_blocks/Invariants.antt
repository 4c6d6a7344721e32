use Rattle.f2_bytes.specs.Bytes.{Image}
use Rattle.f2_survey.specs.Parts.{part_in}
use Rattle.f2_survey.specs.Segments.{IsSegment, HasSummaries}
use Rattle.f2_areas.specs.Walked.{HasWalked}
use Rattle.f2_sum.specs.Records.{sit_entry}
use Rattle.f2_areas.proofs.rule_6_summaries.compare_blocks.Given as goal

-- the comparisons so far
abbrev pub invariant-loop-k : goal.invariant-loop-k
invariant-loop-k l = record {
  nids : (image : Image) → IsSegment image l.owners l.segno l.first (sit_entry l.entry) → HasSummaries image l.first l.block
      → HasWalked l.initial.nids (part_in image 6 1) l.segno 0 → HasWalked l.nids (part_in image 6 1) l.segno l.k;
  places : (image : Image) → IsSegment image l.owners l.segno l.first (sit_entry l.entry) → HasSummaries image l.first l.block
      → HasWalked l.initial.places (part_in image 6 2) l.segno 0 → HasWalked l.places (part_in image 6 2) l.segno l.k;
}
