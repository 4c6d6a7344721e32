use Rattle.std.proofs.Common.{refl, arith}
use Rattle.f2_sum.specs.Records.{sit_entry, sit_record}
use Rattle.f2_tables.proofs.FirstRecords.{sit-more, sit-none, none-fits, more-fits}
use Rattle.f2_tables.proofs.sit.first_records.Goals as goal

pub loop-k-init : goal.loop-k-init
loop-k-init c = record {
  records = λ n. sit-none sit_entry c.new-newer.result n c.new-newer.ensures;
  fits = λ n e is. none-fits sit_entry c.new-newer.result n e c.new-newer.ensures is;
}

pub loop-k-preserved : goal.loop-k-preserved
loop-k-preserved c = record {
  records = sit-more sit_entry c.args.j.now c.loop-k.k (sit_record c.get-record.result) c.loop-k.newer c.set_first.new.self c.get-record.result.entry (omega arith) c.get-record.ensures.record refl c.loop-k.invariant.records c.in_ok-set_first.ensures.done;
  fits = λ n e is. more-fits sit_entry c.loop-k.newer c.set_first.new.self n c.get-record.result.segno c.get-record.result.entry e (c.loop-k.invariant.fits n) c.get-record.ensures.fits (c.in_ok-set_first.ensures.done n) is;
}
