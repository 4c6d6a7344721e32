use Rattle.std.proofs.Common.{◌∙◌, List, ℕ, sym, subst, inl, inr, ⊎_elim}
use Rattle.f2_view.specs.Mounted.{IsMountOf}
use Rattle.f2_top.specs.Run.{least_failing, said_lines, verdict_answer}
use Rattle.f2_top.specs.Text.{IsFrontOf}
use Rattle.f2_top.specs.declared.answer.Answer.{Answer}
use Rattle.f2_top.proofs.Verdicts.{verdict_said, text_said}
use Rattle.f2_top.proofs.checks.check_mounted.Goals as goal

pub returns-in-Ok-clause-exact : goal.returns-in-Ok-clause-exact
returns-in-Ok-clause-exact g c = λ image told of.
    let said = verdict_said image c.in-Ok.verdict (c.in-Ok.ensures.verdict image told of) in
    ⊎_elim (λ is. inl (is ∙ said)) (λ fails. inr fails) c.put_verdict.ensures.kind

pub returns-in-Ok-clause-lines : goal.returns-in-Ok-clause-lines
returns-in-Ok-clause-lines g c = λ image told of had told'.
    let tree = c.args.tree in
    let v = c.in-Ok.verdict in
    let is = c.in-Ok.ensures.verdict image told of in
    let answer = c.put_verdict.result in
    let front = c.put_verdict.ensures.lines image (c.check.ensures.reads.told ∙ told) (subst (IsMountOf image) (sym c.check.ensures.mount) of) had told' in
    let said = subst (λ (a : Answer). IsFrontOf a (said_lines tree image v) answer front.0) (verdict_said image v is) front.1 in
    let least = verdict_answer image (least_failing image) in
    (front.0, subst (λ (l : List ℕ). IsFrontOf least l answer front.0) (text_said tree image v is) said, front.2)
