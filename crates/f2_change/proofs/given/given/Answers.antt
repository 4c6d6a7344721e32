use Rattle.std.proofs.Common.{◌∙◌, sym, ap, take, Some, cond}
use Rattle.std.proofs.lemmas.Bool.{eq-eqb, ne_eqb}
use Rattle.f2_change.specs.Change.{given}
use Rattle.f2_change.proofs.Lookups.{given-none, given-more}
use Rattle.f2_change.proofs.given.given.Goals.{then-w-number, else-w-number}
use Rattle.f2_change.proofs.given.given.Goals as goal

pub loop-w-init : goal.loop-w-init
loop-w-init c = sym (given-none c.args.number)

pub loop-w-preserved : goal.loop-w-preserved
loop-w-preserved c =
    let n = c.args.number in
    let w = c.w-item.result in
    let more = given-more c.args.blocks.now n c.loop-w.w-index w c.loop-w-test.true c.w-item.is in
    elim c.if-w-number.branch [
      | then-w-number t ↦ t.found-is ∙ sym (more ∙ ap (λ b. cond b (Some w.1) (given (take c.loop-w.w-index c.args.blocks.now) n)) (eq-eqb w.0 n t.if-w-number.true))
      | else-w-number t ↦ t.found-is ∙ c.loop-w.invariant ∙ sym (more ∙ ap (λ b. cond b (Some w.1) (given (take c.loop-w.w-index c.args.blocks.now) n)) (ne_eqb w.0 n t.if-w-number.false))
    ]
