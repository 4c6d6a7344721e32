use Rattle.std.proofs.Common.{◌≡◌}
use Rattle.std.specs.Prelude.{flat_map}
use Rattle.f2_bytes.specs.Bytes.{Image, numbers_below}
use Rattle.f2_bytes.specs.Check.{nids, defects_at, times_named}
use Rattle.f2_defects.specs.Collected.{Collects}
use Rattle.f2_items.specs.Counted.{IsCounted}
use Rattle.f2_survey.specs.Known.{IsKnown}
use Rattle.f2_survey.specs.Parts.{part_in}
use Rattle.f2_tour.proofs.tour_of_files.times_found.Given as goal

-- the defects of the numbers below this one
abbrev pub invariant-loop-nid : goal.invariant-loop-nid
invariant-loop-nid l = record {
  part : l.found.part ≡ 7;
  times : (image : Image) → IsKnown image l.nodes → IsCounted (nids image) l.times (times_named image)
      → Collects l.found (flat_map (defects_at (part_in image 3 7)) (numbers_below l.nid));
}
