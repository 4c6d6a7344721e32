use Rattle.std.proofs.Common.{◌≡◌, ◌%◌, ap, arith}
use Rattle.f2_bytes.specs.declared.layout.Layout.{Layout}
use Rattle.f2_bytes.specs.Journal.{SitEntry}
use Rattle.f2_bytes.specs.SegmentTable.{sit}
use Rattle.f2_view.specs.Mounted.{layout_in}
use Rattle.f2_gather.proofs.GatheredSteps.{layout_is}
use Rattle.f2_commit.proofs.LeftSegments.{emptied_entry}
use Rattle.f2_commit.proofs.SegmentKinds.{sit_kind}
use Rattle.f2_commit.proofs.moved_segments.left_entry.Goals as goal

pub returns-clause-entry : goal.returns-clause-entry
returns-clause-entry g c = λ image told of.
    let whole = g.met.D.Disk.whole c.args.d.now image told in
    let read = c.in_ok-old.ensures.entry image told of in
    let low = sit_kind image (λ n inside. whole.each n (let size = whole.size in omega (arith, inside, size))) c.args.segno in
    let held = ap (λ (e : SitEntry). e.kind) read in
    let kind : c.in_ok-old.old.kind % 64 ≡ (sit image c.args.segno).kind = omega (arith, low, held) in
    emptied_entry image (layout_in c.args.m.now) c.layout-main.result.main (layout_is image c.args.m.now of) (ap (λ (l : Layout). l.main) c.layout-main.ensures.value)
    c.args.addresses.now c.args.segno c.args.from c.args.end (c.in_ok-old.old.kind % 64) c.in_ok-old.old c.entry_with.result c.without-map.result c.requires.main c.requires.inside
    c.requires.same c.requires.before c.requires.later read kind c.without-map.ensures.cleared c.without-map.ensures.kept c.entry_with.ensures.kind c.entry_with.ensures.map c.entry_with.ensures.count
