use Rattle.std.proofs.Common.{◌≡◌, ◌⊎◌, ◌∙◌, List, [], ℕ, Some, Result, ap, sym, subst}
use Rattle.std.proofs.lemmas.List.{append-nil}
use Rattle.f2_disk.proofs.Runs.{goes_then, reads_then}
use Rattle.f2_view.specs.Mounted.{Mounted}
use Rattle.f2_view.specs.Mounting.{mounted}
use Rattle.f2_view.specs.declared.mounting.MountRefusal.{MountRefusal}
use Rattle.f2_top.specs.Answers.{IsWhole}
use Rattle.f2_top.specs.Run.{check_answer, checked_lines, least_failing}
use Rattle.f2_top.specs.Text.{IsFrontOf}
use Rattle.f2_top.specs.declared.answer.Answer.TheVariants.{DiskFault, NoMemory, SinkFault}
use Rattle.f2_top.proofs.Unmounted.{unmounted}
use Rattle.f2_top.proofs.Verdicts.{verdict_whole}
use Rattle.f2_top.proofs.checks.check_image.Goals as goal

pub returns-in-Ok-clause-exact : goal.returns-in-Ok-clause-exact
returns-in-Ok-clause-exact g c = λ image told.
    let answer = c.check_mounted.result in
    let own = c.check_mounted.ensures.exact image (c.mount.ensures.reads.told ∙ told) (c.in-Ok.ensures.of_image image told) in
    subst (λ (r : Result Mounted MountRefusal). (answer ≡ check_answer image r) ⊎ ((answer ≡ DiskFault) ⊎ ((answer ≡ NoMemory) ⊎ (answer ≡ SinkFault)))) (c.in-Ok.ensures.exact image told) own

pub returns-in-Ok-clause-sink_fault : goal.returns-in-Ok-clause-sink_fault
returns-in-Ok-clause-sink_fault g c = λ image told fault.
    subst (λ (r : Result Mounted MountRefusal). IsWhole (check_answer image r)) (c.in-Ok.ensures.exact image told) (verdict_whole image (least_failing image))

pub returns-in-Ok-clause-lines : goal.returns-in-Ok-clause-lines
returns-in-Ok-clause-lines g c = λ image told had told'.
    let tree = c.args.tree in
    let front = c.check_mounted.ensures.lines image (c.mount.ensures.reads.told ∙ told) (c.in-Ok.ensures.of_image image told) had told' in
    let is : Result Mounted MountRefusal → Type 0 = λ r. IsFrontOf (check_answer image r) (checked_lines tree image r) c.check_mounted.result front.0 in
    (front.0, subst is (c.in-Ok.ensures.exact image told) front.1, front.2)

pub returns-in-Ok-clause-reads : goal.returns-in-Ok-clause-reads
returns-in-Ok-clause-reads g c = reads_then c.mount.ensures.goes.later c.mount.ensures.reads c.check_mounted.ensures.reads

pub returns-in-Err-clause-lines : goal.returns-in-Err-clause-lines
returns-in-Err-clause-lines g c = λ image told had told'.
    let r = mounted (g.D.Disk.state c.args.disk.now).size image in
    let lines = checked_lines c.args.tree image r in
    ([], subst (λ a. IsFrontOf (check_answer image r) lines a []) (sym c.refused.ensures) (unmounted _ _ c.in-Err.refusal), told' ∙ ap (λ (l : List ℕ). Some l) (sym (append-nil had)))

pub returns-in-Ok-clause-goes : goal.returns-in-Ok-clause-goes
returns-in-Ok-clause-goes g c = goes_then c.mount.ensures.goes c.check_mounted.ensures.goes
