use Rattle.std.proofs.Common.{◌<◌, All, sym, subst, ◌∙◌, arith}
use Rattle.f2_bytes.specs.NodeAddressTable.{nid_limit}
use Rattle.f2_disk.proofs.Runs.{reads_then, goes_then}
use Rattle.f2_view.specs.Mounted.{Mounted, layout_in, IsMountOf}
use Rattle.f2_gather.specs.Gathering.{file_at}
use Rattle.f2_gather.proofs.GatheredSteps.{grows}
use Rattle.f2_gather.proofs.coverings.push_files.Goals as goal

pub loop-nid-preserved : goal.loop-nid-preserved
loop-nid-preserved g c =
    let so_far = c.loop-nid.invariant in
    let done = c.in_ok-push_file.ensures in
    record {
      mount = done.mount ∙ so_far.mount;
      reads = reads_then so_far.goes.later so_far.reads done.reads;
      goes = goes_then so_far.goes done.goes;
      files = λ image told of.
          grows (file_at image) c.args.into.now.items c.loop-nid.into.items c.push_file.new.into.items c.args.nids.now c.loop-nid.nid-index _ c.loop-nid-test.true
          (so_far.files image told of) (done.file image (so_far.reads.told ∙ told) (subst (IsMountOf image) (sym so_far.mount) of));
      few = let before = so_far.few in let one = done.few in omega (arith, before, one);
      below = λ all.
          subst (λ (m : Mounted). All (λ n. n < nid_limit (layout_in m)) c.loop-nid.into.items → All (λ n. n < nid_limit (layout_in m)) c.push_file.new.into.items) so_far.mount done.below (so_far.below all);
    }
