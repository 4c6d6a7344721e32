use Rattle.std.proofs.Common.{◌∙◌, ◌<◌, length, get_or, refl, arith}
use Rattle.f2_disk.proofs.Runs.{reads_then, goes_then}
use Rattle.f2_view.specs.Mounted.{layout_in}
use Rattle.f2_commit.proofs.LeftSegments.{taken_more}
use Rattle.f2_commit.proofs.moved_segments.push_filled.Goals as goal

pub loop-i-preserved : goal.loop-i-preserved
loop-i-preserved g c =
    let so_far = c.loop-i.invariant in
    let targets = c.args.targets.now in
    let i = c.loop-i.i in
    let inside : i < length targets = omega (arith, c.loop-i-test.true, c.div_ceil-i-end.ensures, c.requires.room) in
    record {
      reads = reads_then so_far.goes.later so_far.reads c.in_ok-old.ensures.reads;
      goes = goes_then so_far.goes c.in_ok-old.ensures.goes;
      mount = c.in_ok-old.ensures.mount ∙ so_far.mount;
      entries = taken_more (layout_in c.args.m.now).segments targets c.args.kind c.args.blocks i c.args.into.now.items c.loop-i.into.items _ (get_or targets i 0, c.filled.result) so_far.entries inside refl
          c.filled.ensures.taken (c.requires.targets i 0 inside, c.filled.ensures.fits) c.in_ok-push.ensures.items;
    }
