use Rattle.std.proofs.Common.{◌≡◌, ◌+◌, ◌*◌, arith, length, length-set, ◌∙◌}
use Rattle.f2_bytes.specs.Journal.{SitRecord, sit_record_at, FitsSitEntry}
use Rattle.f2_sum.specs.Records.{sit_record}
use Rattle.f2_sum.proofs.Arrays.{filled-more, all-more}
use Rattle.f2_sum.proofs.sit_journal.read_records.Goals as goal

pub loop-k-preserved : goal.loop-k-preserved
loop-k-preserved c =
    let size : length c.loop-k.records ≡ 6 = c.loop-k.invariant.0 in (
      length-set c.loop-k.records c.loop-k.k c.sit_record_at.result ∙ size,
      filled-more sit_record (λ k. sit_record_at c.args.area.now (2 + 78 * k)) c.loop-k.records c.loop-k.k c.sit_record_at.result (omega arith) c.loop-k.invariant.1 c.sit_record_at.ensures.bytes,
      all-more sit_record (λ (r : SitRecord). FitsSitEntry r.entry) c.loop-k.records c.loop-k.k c.sit_record_at.result (omega arith) c.loop-k.invariant.2 c.sit_record_at.ensures.fits,
    )
