use Rattle.std.proofs.Common.{◌≡◌, length}
use Rattle.f2_bytes.specs.Bytes.{Image}
use Rattle.f2_survey.specs.Known.{IsKnown}
use Rattle.f2_survey.specs.Tallies.{AtMost, Counts}
use Rattle.f2_survey.proofs.node_counts.Tally.of.Given as goal

-- the nodes with a lesser number are counted
abbrev pub invariant-loop-nid : goal.invariant-loop-nid
invariant-loop-nid l = record {
  most : AtMost l.nid l.tally;
  each : length l.tally.of_files.items ≡ l.limit;
  counts : (image : Image) → IsKnown image l.nodes → Counts image l.nid l.tally;
}
