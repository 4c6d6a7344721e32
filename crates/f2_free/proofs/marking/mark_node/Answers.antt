use Rattle.std.proofs.Common.{cond, Some, None, ap, ◌∙◌}
use Rattle.f2_free.specs.NodePlaces.{place_said}
use Rattle.f2_free.proofs.SlotWords.{uses-node, uses-no_node}
use Rattle.f2_free.proofs.marking.mark_node.Goals as goal

pub returns-then-branch-clause-marks : goal.returns-then-branch-clause-marks
returns-then-branch-clause-marks g c = λ image told of found.
    uses-node image c.args.nid (place_said c.args.nid c.args.entry) found c.read_node.new.into
    (c.in_ok-read_node.ensures.node image told of ∙ ap (λ b. cond b (Some c.read_node.new.into) None) c.if-branch.true) c.mark_entry.ensures c.mark_slots.ensures

pub returns-else-branch-clause-marks : goal.returns-else-branch-clause-marks
returns-else-branch-clause-marks g c = λ image told of found.
    uses-no_node image c.args.nid (place_said c.args.nid c.args.entry) found
    (c.in_ok-read_node.ensures.node image told of ∙ ap (λ b. cond b (Some c.read_node.new.into) None) c.if-branch.false) c.mark_entry.ensures
