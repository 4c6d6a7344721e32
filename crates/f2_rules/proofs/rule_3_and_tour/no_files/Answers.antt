use Rattle.std.proofs.Common.{sym, subst, ◌∙◌}
use Rattle.f2_bytes.specs.Superblock.{IsInOrder}
use Rattle.f2_files.proofs.VisitedFiles.{after_kept}
use Rattle.f2_view.proofs.TableReadings.{own_layout}
use Rattle.f2_rules.proofs.rule_3_and_tour.no_files.Goals as goal

pub returns : goal.returns
returns c = λ image of known counts.
    let l = c.layout-layout.ensures in
    after_kept image 0 c.in_ok-kept.kept
    (c.in_ok-kept.ensures image known (subst IsInOrder (sym l.value) l.kept.in_order) (sym (own_layout image c.args.m.now of) ∙ sym l.value) counts (c.in_ok-directories.ensures image known))
