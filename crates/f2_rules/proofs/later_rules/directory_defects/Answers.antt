use Rattle.std.proofs.Common.{arith}
use Rattle.std.proofs.lemmas.Result.{IfOk-weaker}
use Rattle.f2_rules.proofs.Gathered.{gathered}
use Rattle.f2_rules.proofs.later_rules.directory_defects.Goals as goal

pub returns : goal.returns
returns c = λ told.
    IfOk-weaker c.check_directories.result _ _
    (λ found collects image is of before work.
    collects image (gathered image c.args.work.now.kept work.kept (before 4 (omega arith) (omega arith))))
    c.check_directories.ensures
