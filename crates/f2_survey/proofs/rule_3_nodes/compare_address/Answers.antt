use Rattle.std.proofs.Common.{refl, sym, ap, ◌∙◌}
use Rattle.std.specs.Prelude.{not, option_map}
use Rattle.std.proofs.lemmas.Result.{on_ok_weaker}
use Rattle.f2_bytes.specs.Journal.{NatEntry}
use Rattle.f2_bytes.specs.Check.{fails_where, of_value}
use Rattle.f2_survey.proofs.NodeComparisons.{none_made, address_compared}
use Rattle.f2_survey.proofs.rule_3_nodes.compare_address.Goals as goal
use Rattle.f2_sum.specs.Records.{nat_entry}

pub returns-in-Some-clause-compares : goal.returns-in-Some-clause-compares
returns-in-Some-clause-compares c = on_ok_weaker c.compare.result (λ compares image part entry main stands.
    address_compared image c.args.nid c.from.result c.from.ensures c.args.c.now c.compare.new.self _ compares (option_map nat_entry c.args.entry) c.args.main c.args.stands part entry main stands
    ((λ i. fails_where (not c.args.stands) (c.from-in-Some.ensures i) (c.from-in-Some-2.ensures i))
    ∙ ap (λ o. of_value (option_map nat_entry o) (λ (e : NatEntry). fails_where (not c.args.stands) e.address c.args.main)) (sym c.in-Some.is))) c.compare.ensures.compares

pub returns-in-None-clause-compares : goal.returns-in-None-clause-compares
returns-in-None-clause-compares c = λ image part entry main stands.
    address_compared image c.args.nid c.args.nid refl c.args.c.now c.args.c.now _ (none_made c.args.c.now c.args.nid) (option_map nat_entry c.args.entry) c.args.main c.args.stands part entry main stands
    (ap (λ o. of_value (option_map nat_entry o) (λ (e : NatEntry). fails_where (not c.args.stands) e.address c.args.main)) (sym c.in-None.is))
