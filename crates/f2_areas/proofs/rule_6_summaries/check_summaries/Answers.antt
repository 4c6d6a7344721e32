use Rattle.std.proofs.Common.{◌≡◌, ◌<◌, [], refl, sym, ap, subst, ◌∙◌, arith}
use Rattle.f2_bytes.specs.declared.layout.Layout.{Layout}
use Rattle.f2_bytes.specs.Bytes.{Image}
use Rattle.f2_survey.specs.OwnerTables.{IsOwners}
use Rattle.f2_survey.specs.Parts.{part_in}
use Rattle.f2_survey.specs.Segments.{HasTable}
use Rattle.f2_disk.proofs.Runs.{reads_then, goes_then}
use Rattle.f2_view.specs.Mounted.{IsMountOf, layout_in}
use Rattle.f2_view.proofs.TableReadings.{own_layout}
use Rattle.f2_areas.proofs.SegmentFacts.{is_segment}
use Rattle.f2_areas.proofs.SummaryParts.{nids-segments, places-segments, types-segments}
use Rattle.f2_areas.proofs.Walking.{walk-all}
use Rattle.f2_areas.proofs.rule_6_summaries.check_summaries.Goals as goal

pub loop-segno-preserved : goal.loop-segno-preserved
loop-segno-preserved g c =
    let so_far = c.loop-segno.invariant in
    let m = c.loop-segno.m in
    let a = c.loop-segno.segno in
    let segments : c.layout-l.result.segments ≡ (layout_in c.loop-segno.m).segments =
    ap (λ (l : Layout). l.segments) (c.layout-l.ensures.value ∙ ap layout_in (sym so_far.mount)) in
    let below : c.loop-segno.segno < (layout_in c.loop-segno.m).segments = let test = c.loop-segno-test.true in omega (arith, test, segments) in
    let own = λ (image : Image) (of : IsMountOf image c.args.m.now). subst (IsMountOf image) (sym so_far.mount) of in
    let segment = λ (image : Image) (of : IsMountOf image c.args.m.now) (table : HasTable image c.args.entries.now) (owners : IsOwners image c.args.owners.now).
    is_segment image c.args.entries.now table m (own image of) (layout_in m) refl a below c.args.owners.now owners (record { kind = 0; count = 0; map = []; mtime = 0 }) in
    record {
      mount = c.compare_segment.ensures.mount ∙ so_far.mount;
      reads = reads_then so_far.goes.later so_far.reads c.compare_segment.ensures.reads;
      goes = goes_then so_far.goes c.compare_segment.ensures.goes;
      nids = λ image told of table owners.
          c.in_ok-compare_segment.ensures.nids image (so_far.reads.told ∙ told) (own image of) (segment image of table owners) (so_far.nids image told of table owners);
      places = λ image told of table owners.
          c.in_ok-compare_segment.ensures.places image (so_far.reads.told ∙ told) (own image of) (segment image of table owners) (so_far.places image told of table owners);
      types = λ image told of table owners.
          c.in_ok-compare_segment.ensures.types image (so_far.reads.told ∙ told) (own image of) (segment image of table owners) (so_far.types image told of table owners);
    }

pub returns-clause-nids : goal.returns-clause-nids
returns-clause-nids g c = λ image told of table owners.
    let all : c.loop-segno.segno ≡ c.layout-l.result.segments = omega arith in
    let own = c.layout-l.ensures.value ∙ own_layout image c.args.m.now of in
    walk-all (part_in image 6 1) c.loop-segno.s.nids c.loop-segno.segno (all ∙ ap (λ (l : Layout). l.segments) own ∙ nids-segments image) (c.loop-segno.invariant.nids image told of table owners)

pub returns-clause-places : goal.returns-clause-places
returns-clause-places g c = λ image told of table owners.
    let all : c.loop-segno.segno ≡ c.layout-l.result.segments = omega arith in
    let own = c.layout-l.ensures.value ∙ own_layout image c.args.m.now of in
    walk-all (part_in image 6 2) c.loop-segno.s.places c.loop-segno.segno (all ∙ ap (λ (l : Layout). l.segments) own ∙ places-segments image) (c.loop-segno.invariant.places image told of table owners)

pub returns-clause-types : goal.returns-clause-types
returns-clause-types g c = λ image told of table owners.
    let all : c.loop-segno.segno ≡ c.layout-l.result.segments = omega arith in
    let own = c.layout-l.ensures.value ∙ own_layout image c.args.m.now of in
    walk-all (part_in image 6 3) c.loop-segno.s.types c.loop-segno.segno (all ∙ ap (λ (l : Layout). l.segments) own ∙ types-segments image) (c.loop-segno.invariant.types image told of table owners)
