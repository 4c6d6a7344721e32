use Rattle.std.proofs.Common.{◌∙◌, inr}
use Rattle.f2_dump.specs.declared.dumping.DumpRefusal.TheVariants.{SinkFault}
use Rattle.f2_dump.proofs.Sending.{err_same, passed_on}
use Rattle.f2_dump.proofs.gathering.finish.Goals as goal

pub returns-in_err-put_text-clause-ends : goal.returns-in_err-put_text-clause-ends
returns-in_err-put_text-clause-ends g c =
    let e = c.in_err-put_text.field-0.0 in
    let faulted = err_same e SinkFault c.in_err-put_text.ensures.failed in
    let sink = c.put_text.ensures.sink in
    (sink.later, inr (passed_on e c.from_residual.result c.from_residual.ensures ∙ faulted, sink.failed (c.in_err-put_text.was ∙ faulted)))
