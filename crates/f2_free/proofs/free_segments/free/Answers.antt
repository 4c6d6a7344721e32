use Rattle.std.proofs.Common.{map, sym, ap, subst, ◌∙◌}
use Rattle.f2_bytes.specs.declared.layout.Layout.{Layout}
use Rattle.f2_bytes.specs.Bytes.{numbers_below}
use Rattle.f2_bytes.specs.NodeAddressTable.{nid_limit, image_nat_entry}
use Rattle.f2_free.specs.NodePlaces.{HasTable}
use Rattle.f2_free.specs.SegmentMarks.{HasLogs}
use Rattle.f2_free.proofs.AllMarks.{free-of, unmarked-below, unmarked-no_log, unmarked-ascends}
use Rattle.f2_free.proofs.free_segments.free.Goals as goal
use Rattle.f2_view.specs.Mounted.{Mounted, layout_in, IsMountOf}
use Rattle.f2_view.proofs.TableReadings.{own_layout}

pub returns-clause-free : goal.returns-clause-free
returns-clause-free g c = λ image told of is.
    let read = c.in_ok-entries.ensures in
    let table : HasTable image c.in_ok-entries.entries.items = read.entries image told of ∙ ap (λ (l : Layout). map (image_nat_entry image) (numbers_below (nid_limit l))) (own_layout image c.args.m.now of) in
    c.in_ok-unmarked.ensures
    ∙ free-of image c.args.m.now of c.layout.ensures.kept c.in_ok-marks.marks
    (c.in_ok-marks.ensures.marks image (read.reads.told ∙ told) (subst (λ (m : Mounted). IsMountOf image m) (sym read.mount) of) is table)

pub returns-clause-below : goal.returns-clause-below
returns-clause-below g c =
    let m = c.args.m.now in
    let logs = subst (λ (m : Mounted). HasLogs (layout_in m) m.chosen.head c.in_ok-marks.marks) c.in_ok-entries.ensures.mount c.in_ok-marks.ensures.logs in
    unmarked-below (layout_in m) m.chosen.head c.in_ok-marks.marks c.in_ok-unmarked.field-0.items logs c.in_ok-unmarked.ensures

pub returns-clause-no_log : goal.returns-clause-no_log
returns-clause-no_log g c =
    let m = c.args.m.now in
    let logs = subst (λ (m : Mounted). HasLogs (layout_in m) m.chosen.head c.in_ok-marks.marks) c.in_ok-entries.ensures.mount c.in_ok-marks.ensures.logs in
    unmarked-no_log (layout_in m) m.chosen.head c.in_ok-marks.marks c.in_ok-unmarked.field-0.items logs c.in_ok-unmarked.ensures

pub returns-clause-ascending : goal.returns-clause-ascending
returns-clause-ascending g c = unmarked-ascends c.in_ok-marks.marks c.in_ok-unmarked.field-0.items c.in_ok-unmarked.ensures
