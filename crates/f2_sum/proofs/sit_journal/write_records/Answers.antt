use Rattle.std.proofs.Common.{◌≤◌, [], refl, arith, length, get_or}
use Rattle.f2_bytes.specs.Journal.{sit_record_bytes, FitsSitEntry}
use Rattle.f2_bytes.specs.Journal.{SitRecord as FormatSitRecord}
use Rattle.f2_sum.specs.declared.records.SitRecord.{SitRecord}
use Rattle.f2_sum.specs.Records.{sit_record, FitsSitRecord}
use Rattle.f2_sum.proofs.Areas.{area-next}
use Rattle.f2_sum.proofs.Arrays.{all-at}
use Rattle.f2_sum.proofs.Fields.{sit_record_width}
use Rattle.f2_sum.proofs.sit_journal.write_records.Goals as goal

pub sit_record_bytes-requires : goal.sit_record_bytes-requires
sit_record_bytes-requires c =
    all-at sit_record (λ (r : FormatSitRecord). FitsSitEntry r.entry) c.args.records.now c.loop-k.k (record { segno = 0; entry = record { kind = 0; count = 0; map = []; mtime = 0 } }) c.loop-k-test.true c.requires.entries

pub loop-k-preserved : goal.loop-k-preserved
loop-k-preserved c =
    let room : length c.args.records.now ≤ 6 = c.requires.room in
    let none : SitRecord = record { segno = 0; entry = record { kind = 0; count = 0; map = []; mtime = 0 } } in
    area-next sit_record_bytes 78 FitsSitRecord sit_record_width sit_record c.args.records.now c.loop-k.k none (get_or c.args.records.now c.loop-k.k none) c.loop-k.area c.put_bytes.new.b c.sit_record_bytes.result
    c.loop-k-test.true (omega arith) c.loop-k.invariant refl c.sit_record_bytes.ensures.fits c.sit_record_bytes.ensures.bytes c.put_bytes.ensures
