use Rattle.f2_pack.proofs.Kept.{reads_its_blocks}
use Rattle.f2_pack.proofs.laws.pack_reads_its_blocks.Goals as goal

pub returns : goal.returns
returns c = reads_its_blocks
