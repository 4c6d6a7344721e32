use Rattle.std.proofs.Common.{◌∙◌, sym, ap, arith, length}
use Rattle.f2_sum.specs.Records.{nat_record}
use Rattle.f2_sum.proofs.Arrays.{length-used}
use Rattle.f2_sum.proofs.nat_journal.NatJournal.len.Goals as goal

pub returns-clause-len : goal.returns-clause-len
returns-clause-len c =
    sym (length-used nat_record c.self.inside.len c.self.inside.records (omega (arith, c.self.invariant.0, c.self.invariant.1))) ∙ ap length c.self.view_is
