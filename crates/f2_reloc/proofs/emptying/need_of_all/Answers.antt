use Rattle.std.proofs.Common.{get_or, sym, subst, ◌∙◌, arith}
use Rattle.f2_disk.proofs.Runs.{reads_then, goes_then}
use Rattle.f2_view.specs.Mounted.{Mounted, layout_in}
use Rattle.f2_view.proofs.TableReadings.{own_layout}
use Rattle.f2_reloc.specs.Emptying.{part_of, IsNeed}
use Rattle.f2_reloc.proofs.NeedSteps.{need_next, need_all}
use Rattle.f2_view.specs.Mounted.{IsMountOf}
use Rattle.f2_reloc.proofs.emptying.need_of_all.Goals as goal

pub loop-batch-preserved : goal.loop-batch-preserved
loop-batch-preserved g c =
    let m = c.args.m.now in
    let so_far = c.loop-batch.invariant in
    let read = c.in_ok-more.ensures in
    record {
      mount = read.mount ∙ so_far.mount;
      reads = reads_then so_far.goes.later so_far.reads read.reads;
      goes = goes_then so_far.goes read.goes;
      need = λ image told.
          let h = c.requires.checked image told in
          let own = own_layout image m (c.requires.of_image image told) in
          let more = read.need image (so_far.reads.told ∙ told) in
          need_next image h (layout_in m) own c.args.range c.requires.range c.args.batches.now (c.requires.cut image told) c.layout.ensures.kept.in_order c.requires.count c.loop-batch.batch-index (record { first = 0; end = 0 }) c.loop-batch-test.true c.loop-batch.sum c.in_ok-more.more c.saturating_add-sum.result
          (so_far.need image told) (subst (λ (x : Mounted). IsNeed image (part_of (layout_in x) c.args.range (get_or c.args.batches.now c.loop-batch.batch-index (record { first = 0; end = 0 }))) c.in_ok-more.more) so_far.mount more) c.saturating_add-sum.ensures;
    }

pub returns-clause-need : goal.returns-clause-need
returns-clause-need g c = λ image told.
    let past = c.loop-batch-test.false in
    c.loop-batch.invariant.need image told
    ∙ need_all image (c.requires.checked image told) (layout_in c.args.m.now) (own_layout image c.args.m.now (c.requires.of_image image told)) c.args.range c.requires.range c.args.batches.now (c.requires.cut image told) c.loop-batch.batch-index (omega (arith, past))

pub batch_need-requires-clause-of_image : goal.batch_need-requires-clause-of_image
batch_need-requires-clause-of_image g c = λ image now.
    subst (IsMountOf image) (sym c.loop-batch.invariant.mount) (c.requires.of_image image (sym c.loop-batch.invariant.reads.told ∙ now))
