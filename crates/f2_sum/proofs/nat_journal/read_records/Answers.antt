use Rattle.std.proofs.Common.{◌≡◌, ◌+◌, ◌*◌, arith, length, length-set, ◌∙◌}
use Rattle.f2_bytes.specs.Journal.{nat_record_at}
use Rattle.f2_sum.specs.Records.{nat_record}
use Rattle.f2_sum.proofs.Arrays.{filled-more}
use Rattle.f2_sum.proofs.nat_journal.read_records.Goals as goal

pub loop-k-preserved : goal.loop-k-preserved
loop-k-preserved c =
    let size : length c.loop-k.records ≡ 38 = c.loop-k.invariant.0 in (
      length-set c.loop-k.records c.loop-k.k c.nat_record_at.result ∙ size,
      filled-more nat_record (λ k. nat_record_at c.args.area.now (2 + 13 * k)) c.loop-k.records c.loop-k.k c.nat_record_at.result (omega arith) c.loop-k.invariant.1 c.nat_record_at.ensures,
    )
