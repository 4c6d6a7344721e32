use Rattle.std.proofs.Common.{◌≤◌, ◌∙◌, ap, arith, length, map, take}
use Rattle.f2_bytes.specs.Journal.{nat_records, journal_count}
use Rattle.f2_sum.specs.Records.{nat_record}
use Rattle.f2_sum.proofs.Arrays.{length-used}
use Rattle.f2_sum.proofs.Journals.{nat_area-count, nat_area-read}
use Rattle.f2_sum.proofs.nat_journal.NatJournal.write.Goals as goal

pub returns-clause-count : goal.returns-clause-count
returns-clause-count c =
    let list = map nat_record (take c.self.inside.len c.self.inside.records) in
    let short : length list ≤ 38 = omega (arith, length-used nat_record c.self.inside.len c.self.inside.records (omega (arith, c.self.invariant.0, c.self.invariant.1)), c.self.invariant.1) in
    ap journal_count c.write_records.ensures.bytes ∙ nat_area-count list short ∙ ap length c.self.view_is

pub returns-clause-read : goal.returns-clause-read
returns-clause-read c =
    let list = map nat_record (take c.self.inside.len c.self.inside.records) in
    let short : length list ≤ 38 = omega (arith, length-used nat_record c.self.inside.len c.self.inside.records (omega (arith, c.self.invariant.0, c.self.invariant.1)), c.self.invariant.1) in
    ap nat_records c.write_records.ensures.bytes ∙ nat_area-read list short c.write_records.ensures.fits ∙ c.self.view_is
