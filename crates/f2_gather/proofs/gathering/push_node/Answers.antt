use Rattle.std.proofs.Common.{◌++◌, ap, ◌∙◌}
use Rattle.std.proofs.lemmas.Result.{on_ok_weaker}
use Rattle.f2_bytes.specs.Summary.{summary_entry}
use Rattle.f2_gather.proofs.GatheredSteps.{node_found}
use Rattle.f2_gather.proofs.gathering.push_node.Goals as goal

pub returns-clause-node : goal.returns-clause-node
returns-clause-node c = on_ok_weaker c.push_within.result (λ items image shows limit at.
    items
    ∙ ap (λ l. c.args.into.now.items ++ l)
    (node_found image c.args.segment.now shows c.args.k c.args.address c.requires.place at c.summary-s.result (c.summary-s.ensures ∙ ap (λ b. summary_entry b c.args.k) c.bytes.ensures.same) c.args.limit limit)) c.push_within.ensures.items
