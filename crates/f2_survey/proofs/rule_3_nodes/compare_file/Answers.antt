use Rattle.std.proofs.Common.{refl, sym, ap, ◌∙◌}
use Rattle.std.specs.Prelude.{option_map}
use Rattle.std.proofs.lemmas.Result.{on_ok_weaker}
use Rattle.f2_bytes.specs.Journal.{NatEntry}
use Rattle.f2_sum.specs.Records.{nat_entry}
use Rattle.f2_bytes.specs.Check.{same, of_value}
use Rattle.f2_survey.specs.declared.node_words.Said.{Said}
use Rattle.f2_survey.proofs.NodeComparisons.{none_made, file_compared}
use Rattle.f2_survey.proofs.rule_3_nodes.compare_file.Goals as goal

pub returns-in-None-clause-compares : goal.returns-in-None-clause-compares
returns-in-None-clause-compares c = λ image part entry said.
    file_compared image c.args.nid c.args.nid refl c.args.c.now c.args.c.now _ (none_made c.args.c.now c.args.nid) c.args.said (option_map nat_entry c.args.entry) part said entry
    (ap (λ o. of_value o (λ (s : Said). of_value (option_map nat_entry c.args.entry) (λ (e : NatEntry). same s.ino e.ino))) (sym c.in-None.is))

pub returns-in-Some-entry-clause-compares : goal.returns-in-Some-entry-clause-compares
returns-in-Some-entry-clause-compares c = on_ok_weaker c.same.result (λ compares image part entry said.
    file_compared image c.args.nid c.from.result c.from.ensures c.args.c.now c.same.new.self _ compares c.args.said (option_map nat_entry c.args.entry) part said entry
    ((λ i. same (c.from-in-Some-entry.ensures i) (c.from-in-Some-entry-2.ensures i))
    ∙ (λ i. of_value (sym c.in-Some.is i) (λ (s : Said). of_value (option_map nat_entry (sym c.in-Some-entry.is i)) (λ (e : NatEntry). same s.ino e.ino))))) c.same.ensures.compares

pub returns-in-None-entry-clause-compares : goal.returns-in-None-entry-clause-compares
returns-in-None-entry-clause-compares c = λ image part entry said.
    file_compared image c.args.nid c.args.nid refl c.args.c.now c.args.c.now _ (none_made c.args.c.now c.args.nid) c.args.said (option_map nat_entry c.args.entry) part said entry
    (λ i. of_value (sym c.in-Some.is i) (λ (s : Said). of_value (option_map nat_entry (sym c.in-None-entry.is i)) (λ (e : NatEntry). same s.ino e.ino)))
