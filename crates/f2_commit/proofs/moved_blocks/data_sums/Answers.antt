use Rattle.std.proofs.Common.{◌∙◌, arith}
use Rattle.std.proofs.lemmas.List.{length-map}
use Rattle.f2_commit.specs.Shifting.{data_summary}
use Rattle.f2_commit.proofs.moved_blocks.data_sums.Goals as goal

pub returns : goal.returns
returns c = record {
  kind = c.sum_block.ensures.kind;
  entries = λ k low inside.
      c.sum_block.ensures.entries k low ∙ c.put_data_sums.ensures k low (let long = length-map c.args.moved.now data_summary in omega (arith, inside, long));
}
