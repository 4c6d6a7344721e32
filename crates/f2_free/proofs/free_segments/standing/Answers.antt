use Rattle.std.proofs.Common.{◌==◌, ◌||◌, false, ap, ◌∙◌}
use Rattle.std.specs.List.{list_any}
use Rattle.std.specs.Option.{option_map_or}
use Rattle.f2_bytes.specs.declared.layout.Layout.{Layout}
use Rattle.f2_free.specs.NodePlaces.{some_in_table, stands_at}
use Rattle.f2_free.proofs.AllMarks.{logs-first, marks-first, own-marks}
use Rattle.f2_free.proofs.MarkSteps.{marks-same, marks-then, keeps-then, keeps-more}
use Rattle.f2_free.proofs.free_segments.standing.Goals as goal
use Rattle.f2_view.specs.Mounted.{layout_in}

pub returns-clause-logs : goal.returns-clause-logs
returns-clause-logs c =
    logs-first (layout_in c.args.m.now) c.args.m.now.chosen.head
    (c.in_ok-marks.ensures.main ∙ ap (λ (l : Layout). l.main) c.layout-layout.ensures.value)
    (c.in_ok-marks.ensures.count ∙ ap (λ (l : Layout). l.segments) c.layout-layout.ensures.value)
    c.mark_logs.ensures
    (keeps-then c.mark_entries.ensures.keeps (keeps-more _ c.mark_chain.ensures))

pub returns-clause-marks : goal.returns-clause-marks
returns-clause-marks c = λ image of is has.
    own-marks image c.args.m.now of (stands_at image) c.mark_chain.new.marks
    (marks-first (layout_in c.args.m.now) c.args.m.now.chosen.head (stands_at image)
    (c.in_ok-marks.ensures.main ∙ ap (λ (l : Layout). l.main) c.layout-layout.ensures.value)
    (c.in_ok-marks.ensures.count ∙ ap (λ (l : Layout). l.segments) c.layout-layout.ensures.value)
    c.in_ok-marks.ensures.none
    c.mark_logs.ensures
    (marks-same (λ a. some_in_table image a || (list_any (λ x. x == a) c.args.c.now.nodes || option_map_or (λ x. x == a) c.args.c.now.stop false)) (stands_at image)
    (λ a i. some_in_table image a || (list_any (λ x. x == a) (is i).nodes || option_map_or (λ x. x == a) (is i).stop false))
    (marks-then (some_in_table image) (λ a. list_any (λ x. x == a) c.args.c.now.nodes || option_map_or (λ x. x == a) c.args.c.now.stop false)
    (c.mark_entries.ensures.marks image has) c.mark_chain.ensures)))
