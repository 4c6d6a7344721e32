use Rattle.std.proofs.Common.{◌++◌, ap, subst, ◌∙◌}
use Rattle.f2_bytes.specs.declared.layout.Layout.{Layout}
use Rattle.f2_gather.specs.Gathering.{addresses_of}
use Rattle.f2_commit.specs.Shifting.{data_blocks, AreShifted}
use Rattle.f2_commit.proofs.shifting.moved_blocks.Goals as goal

pub returns-clause-blocks : goal.returns-clause-blocks
returns-clause-blocks g c = λ image told own.
    let first = c.in_ok-push_data_blocks.ensures in
    let second = c.in_ok-push_node_blocks.ensures.blocks image (first.reads.told ∙ told) in
    record {
      node_blocks = second.0;
      all = second.1
          ∙ ap (λ xs. xs ++ second.0)
          (first.blocks image told ∙ λ i. c.new-blocks.ensures.items i ++ data_blocks image (own i) c.args.targets.now (addresses_of c.args.moved.now));
      shifted = subst (λ (l : Layout). AreShifted image l c.args.targets.now (addresses_of c.args.moved.now) c.args.node_targets.now c.args.nodes.now second.0) own second.2;
    }
