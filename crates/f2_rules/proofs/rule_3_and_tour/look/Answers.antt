use Rattle.std.proofs.Common.{◌≡◌, [], List, length, sym, subst, ap, ◌∙◌}
use Rattle.std.specs.Prelude.{◌==◌}
use Rattle.f2_bytes.specs.Check.{Defect, defects, nids}
use Rattle.f2_files.specs.Kept.{KeptAfter}
use Rattle.f2_survey.specs.Parts.{first_parts}
use Rattle.f2_rules.proofs.Beginnings.{counts_nodes}
use Rattle.f2_rules.proofs.MetRules.{has_places}
use Rattle.f2_rules.proofs.PartsMet.{no_survey_defects}
use Rattle.f2_view.specs.Mounted.{IsMountOf}
use Rattle.f2_rules.proofs.rule_3_and_tour.look.Goals as goal

pub returns-clause-begun : goal.returns-clause-begun
returns-clause-begun g c = λ image told of.
    let s = c.in_ok-nodes.ensures in
    let surveyed = s.survey image told of in
    let known = surveyed.nodes in
    let told-two = s.reads.told ∙ told in
    let of-two = subst (IsMountOf image) (sym s.mount) of in
    let five = c.in_ok-first.ensures image surveyed.defects in
    let t = c.in_ok-toured.ensures in
    let kept : defects image 3 ≡ [] → KeptAfter image (nids image) c.in_ok-toured.kept = λ none.
    let gives = c.is_empty-gives.ensures (first_parts image 3 5) five ∙ ap (λ (l : List Defect). length l == 0) (no_survey_defects image none) in
    t.kept image told-two of-two known (counts_nodes image c.in_ok-nodes.field-0.tally surveyed.tally) gives (has_places image none) in
    record {
      found = c.in_ok-found.ensures image five (t.offsets image told-two of-two known) (t.times image told-two of-two known);
      nodes = known;
      kept = kept;
      totals = λ none. c.totals_of-totals.ensures image surveyed.tally.counts.nodes surveyed.tally.counts.inodes (kept none);
    }
