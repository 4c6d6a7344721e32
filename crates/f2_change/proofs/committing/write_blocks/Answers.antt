use Rattle.std.proofs.Common.{◌∙◌, take, set, Some, sym, ap}
use Rattle.f2_bytes.specs.Bytes.{Image}
use Rattle.f2_disk.proofs.Runs.{goes_then}
use Rattle.f2_change.specs.Writes.{with_writes}
use Rattle.f2_change.proofs.SameBlocks.{written_at, writes_none, writes_more}
use Rattle.f2_change.proofs.WriteRuns.{goes_same, only_start, only_one, only_then}
use Rattle.f2_change.proofs.committing.write_blocks.Goals as goal

pub loop-w-init : goal.loop-w-init
loop-w-init g c = record {
  done = λ image told. told ∙ ap (λ (i : Image). Some i) (sym (writes_none image));
  only = only_start c.args.blocks.now (g.D.Disk.state c.args.d.now);
  goes = goes_same (g.D.Disk.state c.args.d.now);
}

pub returns-in_err-write-clause-only : goal.returns-in_err-write-clause-only
returns-in_err-write-clause-only g c =
    let blocks = c.args.blocks.now in
    let written = written_at blocks c.loop-w.w-index c.w-item.result c.from.result c.loop-w-test.true c.w-item.is c.from.ensures in
    only_then c.loop-w.invariant.goes.later c.loop-w.invariant.only (only_one blocks c.from.result c.w-item.result.1 written c.write.ensures.writes)

pub loop-w-preserved : goal.loop-w-preserved
loop-w-preserved g c =
    let blocks = c.args.blocks.now in
    let item = c.w-item.result in
    let at = c.from.result in
    let written = written_at blocks c.loop-w.w-index item at c.loop-w-test.true c.w-item.is c.from.ensures in
    record {
      done = λ image told.
          let so_far = with_writes image (take c.loop-w.w-index blocks) in
          c.in_ok-write.ensures.done.told so_far (c.loop-w.invariant.done image told)
          ∙ (λ i. Some (set so_far (c.from.ensures i) item.1))
          ∙ ap (λ (i : Image). Some i) (sym (writes_more image blocks c.loop-w.w-index item c.loop-w-test.true c.w-item.is));
      only = only_then c.loop-w.invariant.goes.later c.loop-w.invariant.only (only_one blocks at item.1 written c.write.ensures.writes);
      goes = goes_then c.loop-w.invariant.goes c.write.ensures.goes;
    }
