use Rattle.std.proofs.Common.{◌+◌, ◌*◌}
use Rattle.f2_bytes.specs.Journal.{nat_entry_at}
use Rattle.f2_sum.specs.Records.{nat_entry}
use Rattle.f2_tables.specs.Tables.{nat_over}
use Rattle.f2_tables.proofs.Puts.{put_more}
use Rattle.f2_tables.proofs.nat.Nat.put_entries.Goals as goal

pub loop-j-preserved : goal.loop-j-preserved
loop-j-preserved c =
    put_more (λ m. nat_entry_at c.loop-j.whole (9 * m)) (λ m. nat_entry_at c.put_nat.new.b (9 * m)) (λ m. nat_over c.args.self.now c.args.block.now (455 * c.args.k + m)) c.loop-j.j (nat_entry c.entry.result)
    c.loop-j.invariant c.put_nat.ensures.read c.put_nat.ensures.others c.entry.ensures
