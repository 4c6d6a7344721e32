use Rattle.std.proofs.Common.{Option, sym, subst}
use Rattle.f2_top.specs.declared.jobs.Job.{Job}
use Rattle.f2_top.specs.Run.{IsLeft, IsAnswered}
use Rattle.f2_top.proofs.top.run.Goals as goal

pub returns-in-Ok-clause-image : goal.returns-in-Ok-clause-image
returns-in-Ok-clause-image g c = λ image told disk memory sink.
    subst (λ (j : Option Job). IsLeft j c.args.moment c.args.id (g.D.Disk.state c.args.disk.now).size image (g.D.Disk.state c.perform.new.disk).told)
    (sym c.in-Ok.ensures.names) (c.perform.ensures.image image told disk memory sink)

pub returns-in-Ok-clause-complete : goal.returns-in-Ok-clause-complete
returns-in-Ok-clause-complete g c = λ image told disk sink.
    subst (λ (j : Option Job). IsAnswered j (g.D.Disk.state c.args.disk.now).size image c.perform.result)
    (sym c.in-Ok.ensures.names) (c.perform.ensures.complete image told disk sink)
