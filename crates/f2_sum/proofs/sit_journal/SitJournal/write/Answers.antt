use Rattle.std.proofs.Common.{◌≤◌, ◌∙◌, ap, arith, length, map, take}
use Rattle.f2_bytes.specs.Journal.{sit_records, journal_count}
use Rattle.f2_sum.specs.Records.{sit_record}
use Rattle.f2_sum.proofs.Arrays.{length-used}
use Rattle.f2_sum.proofs.Journals.{sit_area-count, sit_area-read}
use Rattle.f2_sum.proofs.sit_journal.SitJournal.write.Goals as goal

pub returns-clause-count : goal.returns-clause-count
returns-clause-count c =
    let list = map sit_record (take c.self.inside.len c.self.inside.records) in
    let short : length list ≤ 6 = omega (arith, length-used sit_record c.self.inside.len c.self.inside.records (omega (arith, c.self.invariant.size, c.self.invariant.room)), c.self.invariant.room) in
    ap journal_count c.write_records.ensures.bytes ∙ sit_area-count list short ∙ ap length c.self.view_is

pub returns-clause-read : goal.returns-clause-read
returns-clause-read c =
    let list = map sit_record (take c.self.inside.len c.self.inside.records) in
    let short : length list ≤ 6 = omega (arith, length-used sit_record c.self.inside.len c.self.inside.records (omega (arith, c.self.invariant.size, c.self.invariant.room)), c.self.invariant.room) in
    ap sit_records c.write_records.ensures.bytes ∙ sit_area-read list short c.write_records.ensures.fits ∙ c.self.view_is
