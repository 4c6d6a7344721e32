use Rattle.std.proofs.Common.{◌≡◌, ◌∙◌, Result, Ok, Err, ap, sym}
use Rattle.std.specs.Result.{IsErr, IsErrAnd}
use Rattle.f2_commit.specs.declared.relocating.RelocRefusal.{RelocRefusal}
use Rattle.f2_commit.specs.declared.relocating.RelocRefusal.TheVariants.{NoSpace}
use Rattle.f2_top.proofs.moves.move_range.Goals as goal

-- a refusal that is handed on
handed : {A B : Type 0} (r : Result A RelocRefusal) (s : Result B RelocRefusal) (e x : RelocRefusal) → r ≡ Err e → IsErr s × IsErrAnd s (λ d. d ≡ e) → s ≡ Err x → r ≡ Err x
handed r (Ok y) e x was on same = cc
handed r (Err d) e x was on same = let one : d ≡ e = on.1 in let other : d ≡ x = cc in was ∙ ap (λ y. Err y) (sym one ∙ other)

pub returns-in_err-moved-clause-no_space : goal.returns-in_err-moved-clause-no_space
returns-in_err-moved-clause-no_space g c = λ need have e image told.
    c.defrag.ensures.no_space need have (handed c.defrag.result c.from_residual.result c.in_err-moved.field-0.0 (NoSpace need have) c.in_err-moved.was c.from_residual.ensures e) image told

pub returns-clause-emptied : goal.returns-clause-emptied
returns-clause-emptied g c = λ image told. let all = c.in_ok-moved.ensures.emptied image told in (all.0, all.1, all.3)

pub returns-clause-either : goal.returns-clause-either
returns-clause-either g c = λ image told checked. c.defrag.ensures.either image told

pub returns-in_err-moved-clause-either : goal.returns-in_err-moved-clause-either
returns-in_err-moved-clause-either g c = λ image told checked. c.defrag.ensures.either image told
