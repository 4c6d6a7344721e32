use Rattle.std.proofs.Common.{◌≡◌, ◌+◌, ◌<◌, Bool, ap, ◌∙◌, arith}
use Rattle.f2_bytes.specs.Bytes.{Block, Image}
use Rattle.f2_bytes.specs.Summary.{summary, summary_entry}
use Rattle.f2_bytes.specs.Check.{same, where_true}
use Rattle.f2_survey.specs.OwnedBlocks.{nid_of_owner, place_comparison}
use Rattle.f2_survey.specs.Parts.{part_in}
use Rattle.f2_survey.specs.Segments.{IsSegment, HasSummaries}
use Rattle.f2_sum.specs.Records.{sit_entry, summary_of}
use Rattle.f2_survey.proofs.OwnerFacts.{segment-owner}
use Rattle.f2_areas.proofs.SummaryParts.{nids-blocks, places-blocks, nid-at, place-at}
use Rattle.f2_areas.proofs.Walking.{walk-more, walk-row}
use Rattle.f2_areas.proofs.rule_6_summaries.compare_blocks.Goals as goal

pub loop-k-preserved : goal.loop-k-preserved
loop-k-preserved c =
    let a = c.args.segno in
    let k = c.loop-k.k in
    let low : c.loop-k.k < 512 = omega arith in
    let e = sit_entry c.args.entry.now in
    let s = summary_of c.summary-s.result in
    let marked = c.bit_msb-marked.ensures in
    let owner = c.at-owner.result in
    let owned = λ (image : Image) (is : IsSegment image c.args.owners.now c.args.segno c.args.first (sit_entry c.args.entry.now)).
    segment-owner image c.args.owners.now a c.args.first k e owner low is (c.at-owner.ensures.owner image is.owners) in
    let says = λ (image : Image) (is : IsSegment image c.args.owners.now c.args.segno c.args.first (sit_entry c.args.entry.now)) (all : HasSummaries image c.args.first c.args.block.now).
    c.summary-s.ensures ∙ ap (λ (b : Block). summary_entry b k) c.bytes.ensures.same ∙ all k low ∙ ap (λ n. summary image (n + k)) is.first in
    record {
      nids = λ image is all so_far.
          walk-more (part_in image 6 1) c.loop-k.nids c.compare_nid.new.c a k (where_true c.bit_msb-marked.result (same s.nid (nid_of_owner owner)))
          c.compare_nid.ensures.part c.in_ok-compare_nid.ensures.compares
          (ap (λ (b : Bool). where_true b (same s.nid (nid_of_owner owner))) marked ∙ nid-at image a e is.entry k low s (says image is all) owner (owned image is))
          (c.loop-k.invariant.nids image is all so_far);
      places = λ image is all so_far.
          walk-more (part_in image 6 2) c.loop-k.places c.compare_place.new.c a k (where_true c.bit_msb-marked.result (place_comparison s.place owner))
          c.compare_place.ensures.part c.in_ok-compare_place.ensures.compares
          (ap (λ (b : Bool). where_true b (place_comparison s.place owner)) marked ∙ place-at image a e is.entry k low s (says image is all) owner (owned image is))
          (c.loop-k.invariant.places image is all so_far);
    }

pub returns-clause-nids : goal.returns-clause-nids
returns-clause-nids c = λ image is all start.
    let whole : c.loop-k.k ≡ 512 = omega arith in
    walk-row (part_in image 6 1) c.loop-k.nids c.args.segno c.loop-k.k (whole ∙ nids-blocks image c.args.segno) (c.loop-k.invariant.nids image is all start)

pub returns-clause-places : goal.returns-clause-places
returns-clause-places c = λ image is all start.
    let whole : c.loop-k.k ≡ 512 = omega arith in
    walk-row (part_in image 6 2) c.loop-k.places c.args.segno c.loop-k.k (whole ∙ places-blocks image c.args.segno) (c.loop-k.invariant.places image is all start)
