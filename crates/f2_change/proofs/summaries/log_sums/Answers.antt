use Rattle.std.proofs.Common.{◌≡◌, ◌<◌, drop, length, sym, subst, ◌∙◌, arith, length-set}
use Rattle.f2_bytes.specs.Summary.{summary_entry}
use Rattle.f2_disk.proofs.Runs.{reads_then, goes_then}
use Rattle.f2_view.specs.Mounted.{IsMountOf}
use Rattle.f2_change.specs.Change.{next_summary, summary_end, kind_of, log_at}
use Rattle.f2_change.proofs.LogBlocks.{each-set}
use Rattle.f2_change.proofs.summaries.log_sums.Goals as goal

pub loop-t-preserved : goal.loop-t-preserved
loop-t-preserved g c =
    let so_far = c.loop-t.invariant in
    let blocks = c.loop-t.blocks in
    let t = c.loop-t.t in
    let b = c.in_ok-blocks.field-0 in
    let inside : t < length blocks = omega (arith, so_far.six, c.loop-t-test.true) in
    record {
      reads = reads_then so_far.goes.later so_far.reads c.in_ok-blocks.ensures.reads;
      goes = goes_then so_far.goes c.in_ok-blocks.ensures.goes;
      mount = c.in_ok-blocks.ensures.mount ∙ so_far.mount;
      six = length-set blocks t b ∙ so_far.six;
      entries = λ image told of n k low inside_block.
          each-set (λ n b. summary_entry b k ≡ next_summary image c.args.sums.now (log_at c.args.logs.now n).segno k) blocks t b inside
          (λ n less. so_far.entries image told of n k less inside_block) (c.in_ok-blocks.ensures.entries image (so_far.reads.told ∙ told) (subst (IsMountOf image) (sym so_far.mount) of) k inside_block) n low;
      ends = each-set (λ n b. drop 3584 b ≡ summary_end (kind_of n)) blocks t b inside so_far.ends c.in_ok-blocks.ensures.end;
    }
