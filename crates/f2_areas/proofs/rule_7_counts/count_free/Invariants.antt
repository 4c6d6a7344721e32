use Rattle.std.proofs.Common.{◌≡◌, ◌≤◌}
use Rattle.f2_bytes.specs.Bytes.{Image, count_below}
use Rattle.f2_survey.specs.Segments.{HasTable}
use Rattle.f2_areas.specs.Totals.{is_free}
use Rattle.f2_view.specs.Mounted.{IsMountOf}
use Rattle.f2_areas.proofs.rule_7_counts.count_free.Given as goal

-- the free segments so far
abbrev pub invariant-loop-segno : goal.invariant-loop-segno
invariant-loop-segno l = record {
  low : l.free ≤ l.segno;
  count : (image : Image) → IsMountOf image l.m → HasTable image l.entries → l.free ≡ count_below l.segno (is_free image);
}
