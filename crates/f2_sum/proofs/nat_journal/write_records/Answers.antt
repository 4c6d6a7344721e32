use Rattle.std.proofs.Common.{◌≤◌, refl, arith, length, get_or}
use Rattle.f2_bytes.specs.Journal.{nat_record_bytes}
use Rattle.f2_sum.specs.declared.records.NatRecord.{NatRecord}
use Rattle.f2_sum.specs.Records.{nat_record, FitsNatRecord}
use Rattle.f2_sum.proofs.Areas.{area-next}
use Rattle.f2_sum.proofs.Fields.{nat_record_width}
use Rattle.f2_sum.proofs.nat_journal.write_records.Goals as goal

pub loop-k-preserved : goal.loop-k-preserved
loop-k-preserved c =
    let room : length c.args.records.now ≤ 38 = c.requires.room in
    let none : NatRecord = record { nid = 0; version = 0; ino = 0; addr = 0 } in
    area-next nat_record_bytes 13 FitsNatRecord nat_record_width nat_record c.args.records.now c.loop-k.k none (get_or c.args.records.now c.loop-k.k none) c.loop-k.area c.put_bytes.new.b c.nat_record_bytes.result
    c.loop-k-test.true (omega arith) c.loop-k.invariant refl c.nat_record_bytes.ensures.fits c.nat_record_bytes.ensures.bytes c.put_bytes.ensures
