use Rattle.std.proofs.Common.{◌+◌, cond, [], ◌∷◌, ◌++◌, ◌∙◌, take, ap, sym}
use Rattle.std.proofs.lemmas.List.{append-nil, append_assoc}
use Rattle.f2_change.proofs.TableChanges.{stored-none, stored-more}
use Rattle.f2_change.specs.Change.{is_filled, stored_sums}
use Rattle.f2_change.proofs.summaries.push_sums.Goals as goal

pub loop-w-init : goal.loop-w-init
loop-w-init c = sym (ap (λ l. c.args.into.now.items ++ l) (stored-none c.args.l.now c.args.logs.now c.args.sums.now) ∙ append-nil c.args.into.now.items)

pub loop-w-preserved : goal.loop-w-preserved
loop-w-preserved c =
    let sums = c.args.sums.now in
    let w = c.w-item.result in
    let before = stored_sums c.args.l.now c.args.logs.now (take c.loop-w.w-index sums) in
    c.in_ok-push_sum.ensures.blocks ∙ ap (λ l. l ++ cond (is_filled c.args.logs.now w.0) [] ((c.args.l.now.ssa + w.0, w.1) ∷ [])) c.loop-w.invariant
    ∙ append_assoc c.args.into.now.items before (cond (is_filled c.args.logs.now w.0) [] ((c.args.l.now.ssa + w.0, w.1) ∷ []))
    ∙ ap (λ l. c.args.into.now.items ++ l) (sym (stored-more c.args.l.now c.args.logs.now sums c.loop-w.w-index w c.loop-w-test.true c.w-item.is))
