use Rattle.f2_pack.proofs.Writes.{written_is_read, written_is_chosen}
use Rattle.f2_pack.proofs.laws.written_pack_is_read.Goals as goal

pub returns-clause-kept : goal.returns-clause-kept
returns-clause-kept c = written_is_read

pub returns-clause-chosen : goal.returns-clause-chosen
returns-clause-chosen c = written_is_chosen
