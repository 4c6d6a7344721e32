use Rattle.std.proofs.Common.{◌∙◌, sym, ap, arith, length}
use Rattle.f2_sum.specs.Records.{sit_record}
use Rattle.f2_sum.proofs.Arrays.{length-used}
use Rattle.f2_sum.proofs.sit_journal.SitJournal.len.Goals as goal

pub returns-clause-len : goal.returns-clause-len
returns-clause-len c =
    sym (length-used sit_record c.self.inside.len c.self.inside.records (omega (arith, c.self.invariant.size, c.self.invariant.room))) ∙ ap length c.self.view_is
