use Rattle.std.proofs.Common.{sym, subst, ◌∙◌, arith}
use Rattle.f2_disk.proofs.Runs.{reads_then, goes_then}
use Rattle.f2_view.specs.Mounted.{IsMountOf}
use Rattle.f2_gather.specs.Gathering.{covering_at, addresses_of}
use Rattle.f2_gather.proofs.GatheredSteps.{grows}
use Rattle.f2_gather.proofs.coverings.push_all_covering.Goals as goal

pub loop-file-preserved : goal.loop-file-preserved
loop-file-preserved g c =
    let so_far = c.loop-file.invariant in
    let done = c.in_ok-push_covering.ensures in
    record {
      mount = done.mount ∙ so_far.mount;
      reads = reads_then so_far.goes.later so_far.reads done.reads;
      goes = goes_then so_far.goes done.goes;
      files = λ image told of rises.
          grows (covering_at image (addresses_of c.args.blocks.now)) c.args.into.now.items c.loop-file.into.items c.push_covering.new.into.items c.args.files.now c.loop-file.file-index _ c.loop-file-test.true
          (so_far.files image told of rises) (done.file image (so_far.reads.told ∙ told) (subst (IsMountOf image) (sym so_far.mount) of) rises);
      few = let before = so_far.few in let one = done.few in omega (arith, before, one);
      below = λ limit low all. done.below limit (low c.loop-file.file-index _ c.loop-file-test.true) (so_far.below limit low all);
    }
