use Rattle.std.proofs.Common.{◌++◌, ◌∙◌, arith, subst, ⊎_elim}
use Rattle.f2_disk.specs.Sink.{Puts}
use Rattle.f2_top.specs.Text.{last_of}
use Rattle.f2_top.proofs.Answered.{answered}
use Rattle.f2_top.proofs.Texts.{printed_whole, printed_cut}
use Rattle.f2_top.proofs.top.perform.Goals as goal

pub returns-in-Ok-clause-text : goal.returns-in-Ok-clause-text
returns-in-Ok-clause-text g c = λ had early lines told are.
    let old = g.D.Disk.state c.args.disk.now in
    let new = g.D.Disk.state c.answer-answer.new.disk in
    let own = c.answer-answer.ensures in
    let job = c.args.job.now in
    let front = own.lines early lines are had told in
    let put = subst (λ r. Puts (last_of job c.answer-answer.result) (g.O.Sink.told c.answer-answer.new.out) (g.O.Sink.told c.put_last.new.out) (g.O.Sink.faults c.answer-answer.new.out) (g.O.Sink.faults c.put_last.new.out) r) c.in-Ok.is c.put_last.ensures.line in
    printed_whole job early lines had front.0 old new c.answer-answer.result (g.O.Sink.told c.put_last.new.out) own.allowed own.stopped own.stopped_sizes own.stopped_job front.1 (put.done (had ++ front.0) front.2)

pub returns-in-Err-clause-text : goal.returns-in-Err-clause-text
returns-in-Err-clause-text g c = λ had early lines told are.
    let old = g.D.Disk.state c.args.disk.now in
    let new = g.D.Disk.state c.answer-answer.new.disk in
    let own = c.answer-answer.ensures in
    let front = own.lines early lines are had told in
    let cut = c.put_last.ensures.line.part (had ++ front.0) front.2 in
    printed_cut c.args.job.now early lines had front.0 old new c.answer-answer.result (g.O.Sink.told c.put_last.new.out) cut.0 own.allowed own.stopped own.stopped_sizes own.stopped_job front.1 cut.1

pub returns-in-Ok-clause-complete : goal.returns-in-Ok-clause-complete
returns-in-Ok-clause-complete g c = λ image told calm quiet.
    let own = c.answer-answer.ensures in
    let d = c.args.disk.now in
    ⊎_elim (λ fault. absurd (quiet (omega (arith, own.sink_fault fault, c.put_last.ensures.line.later))))
    (λ allowed. answered c.args.job.now (g.D.Disk.state d) (g.D.Disk.state c.answer-answer.new.disk) image c.answer-answer.result (g.met.D.Disk.whole d image told).size told calm allowed)
    own.allowed

pub returns-in-Ok-clause-last : goal.returns-in-Ok-clause-last
returns-in-Ok-clause-last g c = λ had told alone.
    let put = subst (λ r. Puts (last_of c.args.job.now c.answer-answer.result) (g.O.Sink.told c.answer-answer.new.out) (g.O.Sink.told c.put_last.new.out) (g.O.Sink.faults c.answer-answer.new.out) (g.O.Sink.faults c.put_last.new.out) r) c.in-Ok.is c.put_last.ensures.line in
    put.done had (c.answer-answer.ensures.silent alone ∙ told)
