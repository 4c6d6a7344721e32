use Rattle.std.proofs.Common.{refl, sym, ap, ◌∙◌}
use Rattle.std.proofs.lemmas.Result.{on_ok_weaker}
use Rattle.f2_bytes.specs.Check.{same, of_value}
use Rattle.f2_survey.specs.declared.node_words.Said.{Said}
use Rattle.f2_survey.proofs.NodeComparisons.{none_made, number_compared}
use Rattle.f2_survey.proofs.rule_3_nodes.compare_number.Goals as goal

pub returns-in-Some-clause-compares : goal.returns-in-Some-clause-compares
returns-in-Some-clause-compares c = on_ok_weaker c.same.result (λ compares image part said.
    number_compared image c.args.nid c.from.result c.from.ensures c.args.c.now c.same.new.self _ compares c.args.said part said
    ((λ i. same (c.from-in-Some.ensures i) (c.from-in-Some-2.ensures i)) ∙ ap (λ o. of_value o (λ (s : Said). same s.nid c.args.nid)) (sym c.in-Some.is))) c.same.ensures.compares

pub returns-in-None-clause-compares : goal.returns-in-None-clause-compares
returns-in-None-clause-compares c = λ image part said.
    number_compared image c.args.nid c.args.nid refl c.args.c.now c.args.c.now _ (none_made c.args.c.now c.args.nid) c.args.said part said
    (ap (λ o. of_value o (λ (s : Said). same s.nid c.args.nid)) (sym c.in-None.is))
