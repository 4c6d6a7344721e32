use Rattle.std.proofs.Common.{◌≤◌, ◌<◌, [], ◌∙◌, sym, ap, arith, length}
use Rattle.std.specs.Prelude.{slice_get}
use Rattle.f2_bytes.specs.Journal.{FitsSitEntry}
use Rattle.f2_bytes.specs.Journal.{SitRecord as FormatSitRecord}
use Rattle.f2_sum.specs.declared.records.SitRecord.{SitRecord}
use Rattle.f2_sum.specs.Records.{sit_record}
use Rattle.f2_sum.proofs.Arrays.{length-used, get-used, all-used}
use Rattle.f2_sum.proofs.sit_journal.SitJournal.get.Goals as goal

-- the record past the end of an array
none : SitRecord
none = record { segno = 0; entry = record { kind = 0; count = 0; map = []; mtime = 0 } }

pub returns-clause-record : goal.returns-clause-record
unfolding none
returns-clause-record c =
    let inside : c.self.inside.len ≤ length c.self.inside.records = omega (arith, c.self.invariant.size, c.self.invariant.room) in
    let used = length-used sit_record c.self.inside.len c.self.inside.records inside in
    let below : c.args.k < c.self.inside.len = omega (arith, ap length c.self.view_is, used, c.requires) in
    ap (λ l. slice_get l c.args.k) (sym c.self.view_is) ∙ get-used sit_record c.self.inside.len c.self.inside.records c.args.k none inside below

pub returns-clause-fits : goal.returns-clause-fits
unfolding none
returns-clause-fits c =
    let inside : c.self.inside.len ≤ length c.self.inside.records = omega (arith, c.self.invariant.size, c.self.invariant.room) in
    let used = length-used sit_record c.self.inside.len c.self.inside.records inside in
    let below : c.args.k < c.self.inside.len = omega (arith, ap length c.self.view_is, used, c.requires) in
    all-used sit_record (λ (r : FormatSitRecord). FitsSitEntry r.entry) c.self.inside.len c.self.inside.records c.args.k none inside below c.self.invariant.fits
