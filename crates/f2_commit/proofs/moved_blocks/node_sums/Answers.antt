use Rattle.std.proofs.Common.{◌∙◌, arith}
use Rattle.std.proofs.lemmas.List.{length-map}
use Rattle.f2_commit.specs.Moves.{node_summary}
use Rattle.f2_commit.proofs.moved_blocks.node_sums.Goals as goal

pub returns : goal.returns
returns c = record {
  kind = c.sum_block.ensures.kind;
  entries = λ k low inside.
      c.sum_block.ensures.entries k low ∙ c.put_node_sums.ensures k low (let long = length-map c.args.nids.now node_summary in omega (arith, inside, long));
}
