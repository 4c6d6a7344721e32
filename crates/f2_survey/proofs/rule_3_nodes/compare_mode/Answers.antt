use Rattle.std.proofs.Common.{refl, sym, ap, ◌∙◌}
use Rattle.std.specs.Prelude.{not, is_some}
use Rattle.std.proofs.lemmas.Result.{on_ok_weaker}
use Rattle.f2_bytes.specs.Node.{type_of_mode}
use Rattle.f2_bytes.specs.Check.{fails_where, of_value}
use Rattle.f2_survey.specs.declared.node_words.Said.{Said}
use Rattle.f2_survey.proofs.NodeComparisons.{none_made, mode_compared, no_type}
use Rattle.f2_survey.proofs.rule_3_nodes.compare_mode.Goals as goal

pub returns-in-Some-clause-compares : goal.returns-in-Some-clause-compares
returns-in-Some-clause-compares c = on_ok_weaker c.compare.result (λ compares image part inode.
    mode_compared image c.args.nid c.from.result c.from.ensures c.args.c.now c.compare.new.self _ compares c.args.inode part c.if-nid-eq-ROOT.false inode
    ((λ i. fails_where (no_type c.kind.result _ c.in-Some.inode.mode c.is_none.result c.kind.ensures c.is_none.ensures i) (c.from-in-Some.ensures i) 0)
    ∙ ap (λ o. of_value o (λ (s : Said). fails_where (not (is_some (type_of_mode s.mode))) s.mode 0)) (sym c.in-Some.is))) c.compare.ensures.compares

pub returns-in-None-clause-compares : goal.returns-in-None-clause-compares
returns-in-None-clause-compares c = λ image part inode.
    mode_compared image c.args.nid c.args.nid refl c.args.c.now c.args.c.now _ (none_made c.args.c.now c.args.nid) c.args.inode part c.if-nid-eq-ROOT.false inode
    (ap (λ o. of_value o (λ (s : Said). fails_where (not (is_some (type_of_mode s.mode))) s.mode 0)) (sym c.in-None.is))
