use Rattle.std.proofs.Common.{◌≡◌}
use Rattle.f2_bytes.specs.Bytes.{Image, block_at}
use Rattle.f2_defects.specs.Collected.{Collects}
use Rattle.f2_survey.specs.Parts.{part_in, defects_below}
use Rattle.f2_areas.proofs.rule_1_copies.differing.Given as goal

-- the rows before this one were compared
abbrev pub invariant-loop-row : goal.invariant-loop-row
invariant-loop-row l = record {
  part : l.c.part ≡ 2;
  rows : (image : Image) → block_at image 0 ≡ l.first → block_at image 1 ≡ l.second → Collects l.c (defects_below (part_in image 1 2) l.row);
}
