use Rattle.std.proofs.Common.{sym, subst, arith}
use Rattle.f2_defects.specs.Collected.{Collects}
use Rattle.f2_rules.proofs.AddressesMet.{kept-owners}
use Rattle.f2_survey.proofs.RuleParts.{summary_parts_all}
use Rattle.f2_survey.specs.Segments.{HasTable}
use Rattle.f2_rules.proofs.later_rules.summary_defects.Goals as goal

pub returns-clause-decides : goal.returns-clause-decides
returns-clause-decides g c = λ image told of meets work.
    let owners = kept-owners image c.args.work.now.kept work.kept (meets 4 (omega arith) (omega arith)) in
    let s = c.in_ok-s.ensures in
    subst (Collects _) (summary_parts_all image)
    (c.in_ok-three_parts.ensures image 6 (s.nids image told of (subst (HasTable image) (sym c.deref.ensures.value) work.table) owners) (s.places image told of (subst (HasTable image) (sym c.deref.ensures.value) work.table) owners) (s.types image told of (subst (HasTable image) (sym c.deref.ensures.value) work.table) owners))
