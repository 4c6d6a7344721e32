use Rattle.f2_pack.proofs.Kept.{keeps_summaries}
use Rattle.f2_pack.proofs.laws.pack_summaries_are_kept.Goals as goal

pub returns : goal.returns
returns c = keeps_summaries
