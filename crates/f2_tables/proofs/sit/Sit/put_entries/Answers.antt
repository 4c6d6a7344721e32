use Rattle.std.proofs.Common.{◌≡◌, ◌+◌, ◌-◌, ◌*◌, ◌∙◌, sym, arith}
use Rattle.f2_bytes.specs.Journal.{sit_entry_at}
use Rattle.f2_sum.specs.Records.{sit_entry}
use Rattle.f2_tables.specs.Tables.{sit_over}
use Rattle.f2_tables.proofs.Puts.{put_more}
use Rattle.f2_tables.proofs.sit.Sit.put_entries.Goals as goal

pub loop-segno-preserved : goal.loop-segno-preserved
loop-segno-preserved c =
    let so_far = c.loop-segno.invariant in
    let first = 55 * c.args.k in
    let j = c.loop-segno.segno - first in
    let place : first + j ≡ c.loop-segno.segno = omega (arith, so_far.after) in
    record {
      after = omega (arith, so_far.after);
      entries = λ m low.
          put_more (λ m. sit_entry_at c.loop-segno.whole (74 * m)) (λ m. sit_entry_at c.put_sit.new.b (74 * m)) (λ m. sit_over c.args.self.now c.args.block.now (first + m)) j (sit_entry c.entry.result) (λ n less. so_far.entries n (omega (arith, less, place))) c.put_sit.ensures.read c.put_sit.ensures.others
          (c.entry.ensures.entry ∙ (λ i. sit_over c.args.self.now c.args.block.now (sym place i))) m (omega (arith, low, place));
    }
