use Rattle.f2_commit.proofs.PlacedBlocks.{end_type}
use Rattle.f2_commit.proofs.moved_blocks.sum_block.Goals as goal

pub returns-clause-kind : goal.returns-clause-kind
returns-clause-kind c = end_type c.log_block.result c.args.kind c.log_block.ensures.end
