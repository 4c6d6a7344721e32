use Rattle.std.proofs.Common.{◌≡◌, sym, ap, ◌∙◌, subst, arith}
use Rattle.f2_bytes.specs.Superblock.{copy_of, copy_row, is_compared_row}
use Rattle.f2_bytes.specs.Check.{same, where_true}
use Rattle.f2_defects.specs.Collected.{Collects, Compares}
use Rattle.f2_survey.specs.Parts.{part_in, defects_below}
use Rattle.f2_areas.proofs.CopyParts.{row_more, rows_all}
use Rattle.f2_survey.proofs.PartDefects.{defects_below-none}
use Rattle.f2_areas.proofs.rule_1_copies.differing.Goals as goal

pub loop-row-init : goal.loop-row-init
loop-row-init c = record {
  part = c.new-c.ensures.part;
  rows = λ image first second. subst (Collects c.new-c.result) (sym (defects_below-none (part_in image 1 2))) c.new-c.ensures.none;
}

pub loop-row-preserved : goal.loop-row-preserved
loop-row-preserved c =
    let old = c.loop-row.c in
    let row = c.loop-row.row in
    record {
      part = c.in_ok-compare_row.ensures.part ∙ c.loop-row.invariant.part;
      rows = λ image first second.
          row_more image old c.compare_row.new.c row c.loop-row.invariant.part (c.loop-row.invariant.rows image first second)
          (subst (λ k. Compares old c.compare_row.new.c row 0 k)
          (λ i. where_true (is_compared_row row) (same (copy_row (copy_of (sym second i)) row) (copy_row (copy_of (sym first i)) row)))
          c.in_ok-compare_row.ensures.compares);
    }

pub returns : goal.returns
returns c = λ image first second.
    let all : c.loop-row.row ≡ 33 = omega arith in
    subst (Collects c.loop-row.c) (ap (defects_below (part_in image 1 2)) all ∙ rows_all image) (c.loop-row.invariant.rows image first second)
