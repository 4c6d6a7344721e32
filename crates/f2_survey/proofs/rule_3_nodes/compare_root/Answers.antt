use Rattle.std.proofs.Common.{◌≡◌, ◌/◌, sym, ap, ◌∙◌}
use Rattle.std.specs.Prelude.{not, ◌==◌}
use Rattle.std.specs.Option.{option_map_or}
use Rattle.std.proofs.lemmas.Result.{on_ok_weaker}
use Rattle.f2_bytes.specs.Check.{fails_where}
use Rattle.f2_survey.specs.declared.node_words.Said.{Said}
use Rattle.f2_survey.proofs.NodeComparisons.{root_compared}
use Rattle.f2_survey.proofs.rule_3_nodes.compare_root.Goals as goal
use Rattle.f2_survey.proofs.rule_3_nodes.compare_root.Goals.{in-Some, in-None}

pub returns-clause-compares : goal.returns-clause-compares
returns-clause-compares c = on_ok_weaker c.compare.result (λ compares image part root inode.
    let m : c.match-inode.mode ≡ option_map_or (λ (s : Said). s.mode) c.args.inode 0 =
    elim c.match-inode.branch [
      | in-Some w ↦ w.mode-is ∙ w.from-mode.ensures ∙ ap (λ o. option_map_or (λ (s : Said). s.mode) o 0) (sym w.in-Some.is)
      | in-None w ↦ w.mode-is ∙ ap (λ o. option_map_or (λ (s : Said). s.mode) o 0) (sym w.in-None.is)
    ] in
    root_compared image c.args.nid c.from.result c.from.ensures c.args.c.now c.compare.new.self _ compares c.args.inode part root inode
    (ap (λ k. fails_where (not (k / 4096 == 4)) k 0x4000) m)) c.compare.ensures.compares
