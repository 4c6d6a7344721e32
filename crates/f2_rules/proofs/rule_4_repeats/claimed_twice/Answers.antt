use Rattle.std.proofs.Common.{sym, subst, ◌∙◌, arith}
use Rattle.std.proofs.lemmas.Result.{IfOk-weaker}
use Rattle.f2_defects.specs.Collected.{Collects}
use Rattle.f2_rules.proofs.AddressesMet.{repeats-none}
use Rattle.f2_rules.proofs.MetRules.{places_before}
use Rattle.f2_rules.proofs.rule_4_repeats.claimed_twice.Goals as goal

pub returns-then-not-is_spoiled-clause-repeats : goal.returns-then-not-is_spoiled-clause-repeats
returns-then-not-is_spoiled-clause-repeats g c = λ image told of meets work.
    let kept = work.kept in
    subst (Collects c.new.result)
    (sym (repeats-none image c.args.work.now.kept.addresses.owners kept.addresses.owners (sym c.is_spoiled.ensures ∙ c.if-not-is_spoiled.true)))
    c.new.ensures.none

pub returns-clause-repeats : goal.returns-clause-repeats
returns-clause-repeats g c = IfOk-weaker c.repeat_defects.result _ _ (λ r found image told of meets work.
    found image told of work.nodes (places_before image 4 (omega arith) meets)) c.repeat_defects.ensures.repeats
