use Rattle.f2_disk.proofs.Blocks.{zeros_block}
use Rattle.f2_disk.proofs.block.Block.zeros.Goals as goal

pub invariant_of-result : goal.invariant_of-result
invariant_of-result c = zeros_block
