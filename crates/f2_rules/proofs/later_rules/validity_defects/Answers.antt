use Rattle.std.proofs.Common.{sym, subst, arith}
use Rattle.std.proofs.lemmas.Result.{IfOk-weaker}
use Rattle.f2_defects.specs.Collected.{Collects}
use Rattle.f2_rules.proofs.AddressesMet.{kept-owners}
use Rattle.f2_survey.proofs.RuleParts.{validity_parts_all}
use Rattle.f2_survey.specs.Segments.{HasTable}
use Rattle.f2_rules.proofs.later_rules.validity_defects.Goals as goal

pub returns : goal.returns
returns c = λ known.
    IfOk-weaker c.three_parts.result _ _
    (λ found parts image told of meets work.
    let owners = kept-owners image c.args.work.now.kept work.kept (meets 4 (omega arith) (omega arith)) in
    let v = c.in_ok-v.ensures in
    subst (Collects found) (validity_parts_all image)
    (parts image 5 (v.marks image of (subst (HasTable image) (sym c.deref.ensures.value) work.table) owners) (v.counts image of (subst (HasTable image) (sym c.deref.ensures.value) work.table) owners) (v.kinds image of (subst (HasTable image) (sym c.deref.ensures.value) work.table) owners)))
    c.three_parts.ensures
