use Rattle.std.proofs.Common.{arith, refl}
use Rattle.f2_sum.specs.Records.{nat_entry, nat_record}
use Rattle.f2_tables.proofs.FirstRecords.{nat-more, nat-none}
use Rattle.f2_tables.proofs.nat.first_records.Goals as goal

pub loop-k-init : goal.loop-k-init
loop-k-init c = λ n. nat-none nat_entry c.new-newer.result n c.new-newer.ensures

pub loop-k-preserved : goal.loop-k-preserved
loop-k-preserved c = nat-more nat_entry c.args.j.now c.loop-k.k (nat_record c.get-record.result) c.loop-k.newer c.set_first.new.self _ (omega arith) c.get-record.ensures refl c.loop-k.invariant c.in_ok-set_first.ensures.done
