use Rattle.std.proofs.Common.{◌≡◌, ◌<◌, Bool, ap, ◌∙◌, arith}
use Rattle.f2_bytes.specs.Bytes.{Image}
use Rattle.f2_bytes.specs.Check.{same, digit, where_true}
use Rattle.f2_survey.specs.OwnedBlocks.{is_somebody, kind_comparison}
use Rattle.f2_survey.specs.Parts.{part_in}
use Rattle.f2_survey.specs.Segments.{IsSegment}
use Rattle.f2_sum.specs.Records.{sit_entry}
use Rattle.f2_survey.proofs.OwnerFacts.{segment-owner}
use Rattle.f2_areas.proofs.ValidityParts.{marks-blocks, kinds-blocks, mark-at, kind-at}
use Rattle.f2_areas.proofs.Walking.{walk-more, walk-row}
use Rattle.f2_areas.proofs.rule_5_validity.compare_blocks.Goals as goal

pub loop-k-preserved : goal.loop-k-preserved
loop-k-preserved c =
    let a = c.args.segno in
    let k = c.loop-k.k in
    let low : c.loop-k.k < 512 = omega arith in
    let e = sit_entry c.args.entry.now in
    let marked = c.bit_msb-marked.ensures in
    let owner = c.at-owner.result in
    let owned = λ (image : Image) (s : IsSegment image c.args.owners.now c.args.segno c.args.first (sit_entry c.args.entry.now)).
    segment-owner image c.args.owners.now a c.args.first k e owner low s (c.at-owner.ensures.owner image s.owners) in
    record {
      marks = λ image s so_far.
          walk-more (part_in image 5 1) c.loop-k.marks c.compare_mark.new.c a k (same (digit c.bit_msb-marked.result) (digit (is_somebody owner)))
          c.compare_mark.ensures.part c.in_ok-compare_mark.ensures.compares
          (ap (λ (b : Bool). same (digit b) (digit (is_somebody owner))) marked ∙ mark-at image a e s.entry k low owner (owned image s))
          (c.loop-k.invariant.marks image s so_far);
      kinds = λ image s so_far.
          walk-more (part_in image 5 3) c.loop-k.kinds c.compare_kind.new.c a k (where_true c.bit_msb-marked.result (kind_comparison e.kind owner))
          c.compare_kind.ensures.part c.in_ok-compare_kind.ensures.compares
          (ap (λ (b : Bool). where_true b (kind_comparison e.kind owner)) marked ∙ kind-at image a e s.entry k low owner (owned image s))
          (c.loop-k.invariant.kinds image s so_far);
    }

pub returns-clause-marks : goal.returns-clause-marks
returns-clause-marks c = λ image s start.
    let all : c.loop-k.k ≡ 512 = omega arith in
    walk-row (part_in image 5 1) c.loop-k.marks c.args.segno c.loop-k.k (all ∙ marks-blocks image c.args.segno) (c.loop-k.invariant.marks image s start)

pub returns-clause-kinds : goal.returns-clause-kinds
returns-clause-kinds c = λ image s start.
    let all : c.loop-k.k ≡ 512 = omega arith in
    walk-row (part_in image 5 3) c.loop-k.kinds c.args.segno c.loop-k.k (all ∙ kinds-blocks image c.args.segno) (c.loop-k.invariant.kinds image s start)
