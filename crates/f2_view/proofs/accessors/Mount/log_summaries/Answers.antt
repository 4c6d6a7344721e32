use Rattle.std.proofs.Common.{◌≡◌, ◌≢◌, ◌+◌, ℕ, length, ap, sym, ◌∙◌, arith, below_more}
use Rattle.std.specs.Prelude.{unwrap_or}
use Rattle.f2_bytes.specs.Checkpoint.{pack}
use Rattle.f2_bytes.specs.Summary.{summary_entry, pack_summary, missing_summary}
use Rattle.f2_disk.proofs.Runs.{reads_then, goes_then}
use Rattle.f2_view.proofs.SummaryReads.{put_over}
use Rattle.f2_view.proofs.accessors.Mount.log_summaries.Goals as goal

pub loop-k-preserved : goal.loop-k-preserved
loop-k-preserved g c =
    let so_far = c.loop-k.invariant in
    record {
      reads = reads_then so_far.goes.later so_far.reads c.log_summary.ensures.reads;
      goes = goes_then so_far.goes c.log_summary.ensures.goes;
      size = omega (arith, so_far.size, c.put_summary.auto.b);
      entries = λ image told of.
          below_more (λ (j : ℕ). summary_entry c.put_summary.new.b j ≡ unwrap_or (pack_summary (pack image) c.args.t j) (missing_summary image c.args.t (c.args.first + j))) c.loop-k.k
          (λ j lt. let other : j ≢ c.loop-k.k = omega arith in c.put_summary.ensures.others j other ∙ so_far.entries image told of j lt)
          (c.put_summary.ensures.read ∙ c.in_ok-s.ensures.summary image (so_far.reads.told ∙ told) of);
    }

pub returns-clause-summaries : goal.returns-clause-summaries
returns-clause-summaries g c = λ image told of k lt.
    let all : c.loop-k.k ≡ 512 = omega arith in
    let size : length c.args.into.now ≡ length c.loop-k.bytes = c.put.ensures.block.length ∙ sym c.loop-k.invariant.size in
    ap (λ b. summary_entry b k) (c.put.ensures.bytes ∙ put_over c.args.into.now c.loop-k.bytes size) ∙ c.loop-k.invariant.entries image told of k (omega arith)
