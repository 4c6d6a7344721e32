use Rattle.f2_pack.proofs.Writes.{higher_counts}
use Rattle.f2_pack.proofs.laws.higher_pack_counts.Goals as goal

pub returns : goal.returns
returns c = higher_counts
