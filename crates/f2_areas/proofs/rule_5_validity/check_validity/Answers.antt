use Rattle.std.proofs.Common.{◌≡◌, [], ap, ◌∙◌, arith}
use Rattle.f2_bytes.specs.Bytes.{Image}
use Rattle.f2_bytes.specs.declared.layout.Layout.{Layout}
use Rattle.f2_survey.specs.OwnerTables.{IsOwners}
use Rattle.f2_survey.specs.Parts.{part_in}
use Rattle.f2_survey.specs.Segments.{HasTable}
use Rattle.f2_view.specs.Mounted.{IsMountOf}
use Rattle.f2_view.proofs.TableReadings.{own_layout}
use Rattle.f2_areas.proofs.SegmentFacts.{is_segment}
use Rattle.f2_areas.proofs.ValidityParts.{marks-segments, counts-segments, kinds-segments}
use Rattle.f2_areas.proofs.Walking.{walk-all}
use Rattle.f2_areas.proofs.rule_5_validity.check_validity.Goals as goal

pub loop-segno-preserved : goal.loop-segno-preserved
loop-segno-preserved c =
    let segment = λ (image : Image) (of : IsMountOf image c.args.m.now) (table : HasTable image c.args.entries.now) (owners : IsOwners image c.args.owners.now).
    is_segment image c.args.entries.now table c.args.m.now of c.layout-l.result c.layout-l.ensures.value c.loop-segno.segno c.loop-segno-test.true c.args.owners.now owners (record { kind = 0; count = 0; map = []; mtime = 0 }) in
    record {
      marks = λ image of table owners. c.in_ok-compare_segment.ensures.marks image (segment image of table owners) (c.loop-segno.invariant.marks image of table owners);
      counts = λ image of table owners. c.in_ok-compare_segment.ensures.counts image (segment image of table owners) (c.loop-segno.invariant.counts image of table owners);
      kinds = λ image of table owners. c.in_ok-compare_segment.ensures.kinds image (segment image of table owners) (c.loop-segno.invariant.kinds image of table owners);
    }

pub returns-clause-marks : goal.returns-clause-marks
returns-clause-marks c = λ image of table owners.
    let all : c.loop-segno.segno ≡ c.layout-l.result.segments = omega arith in
    let own = c.layout-l.ensures.value ∙ own_layout image c.args.m.now of in
    walk-all (part_in image 5 1) c.loop-segno.v.marks c.loop-segno.segno (all ∙ ap (λ (l : Layout). l.segments) own ∙ marks-segments image) (c.loop-segno.invariant.marks image of table owners)

pub returns-clause-counts : goal.returns-clause-counts
returns-clause-counts c = λ image of table owners.
    let all : c.loop-segno.segno ≡ c.layout-l.result.segments = omega arith in
    let own = c.layout-l.ensures.value ∙ own_layout image c.args.m.now of in
    walk-all (part_in image 5 2) c.loop-segno.v.counts c.loop-segno.segno (all ∙ ap (λ (l : Layout). l.segments) own ∙ counts-segments image) (c.loop-segno.invariant.counts image of table owners)

pub returns-clause-kinds : goal.returns-clause-kinds
returns-clause-kinds c = λ image of table owners.
    let all : c.loop-segno.segno ≡ c.layout-l.result.segments = omega arith in
    let own = c.layout-l.ensures.value ∙ own_layout image c.args.m.now of in
    walk-all (part_in image 5 3) c.loop-segno.v.kinds c.loop-segno.segno (all ∙ ap (λ (l : Layout). l.segments) own ∙ kinds-segments image) (c.loop-segno.invariant.kinds image of table owners)
