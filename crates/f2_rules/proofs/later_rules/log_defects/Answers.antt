use Rattle.std.proofs.Common.{sym, subst}
use Rattle.std.proofs.lemmas.Result.{IfOk-weaker}
use Rattle.f2_survey.specs.Segments.{HasTable}
use Rattle.f2_rules.proofs.later_rules.log_defects.Goals as goal

pub returns : goal.returns
returns c = λ known. IfOk-weaker c.check_logs.result _ _ (λ found all image told of meets work. all image of (subst (HasTable image) (sym c.deref.ensures.value) work.table)) c.check_logs.ensures
