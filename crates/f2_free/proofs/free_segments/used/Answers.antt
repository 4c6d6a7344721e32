use Rattle.std.proofs.Common.{List, map, sym, ap, subst, ◌∙◌}
use Rattle.f2_bytes.specs.Checkpoint.{head}
use Rattle.f2_bytes.specs.Superblock.{layout}
use Rattle.f2_free.specs.NodePlaces.{HasFound, stands_at, some_uses}
use Rattle.f2_free.proofs.AllMarks.{logs-kept, marks-more}
use Rattle.f2_free.proofs.free_segments.used.Goals as goal
use Rattle.f2_sum.specs.Records.{nat_entry}
use Rattle.f2_sum.specs.declared.records.NatEntry.{NatEntry}
use Rattle.f2_view.specs.Mounted.{layout_in}

pub returns-clause-logs : goal.returns-clause-logs
returns-clause-logs g c = logs-kept (layout_in c.args.m.now) c.args.m.now.chosen.head c.in_ok-marks.ensures.logs c.in_ok-mark_nodes.ensures.keeps

pub returns-clause-marks : goal.returns-clause-marks
returns-clause-marks g c = λ image told of is has.
    let stands = c.in_ok-marks.ensures.marks image of is (ap (map nat_entry) c.deref.ensures.value ∙ has) in
    let found = c.in_ok-roll_forward.ensures.found image told of is has in
    marks-more (layout image) (head image) (stands_at image) (some_uses image) stands
    (c.in_ok-mark_nodes.ensures.marks image (c.in_ok-roll_forward.ensures.reads.told ∙ told) of (subst (λ (l : List NatEntry). HasFound image l) (sym c.deref-2.ensures.value) found))
