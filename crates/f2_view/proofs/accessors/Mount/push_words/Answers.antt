use Rattle.std.proofs.Common.{◌++◌, map, rules, ◌∙◌}
use Rattle.f2_bytes.specs.Node.{address_word}
use Rattle.f2_disk.proofs.Runs.{reads_then, goes_then}
use Rattle.f2_view.specs.Directories.{item_of, legal, items_under}
use Rattle.f2_view.proofs.Pushes.{adds_nothing, adds_one, of_no_numbers}
use Rattle.f2_view.proofs.accessors.Mount.push_words.Goals as goal

pub loop-j-init : goal.loop-j-init
loop-j-init g c = record {
  mount = search rules;
  reads = search rules;
  goes = search rules;
  entries = λ image told of. adds_nothing item_of c.args.into.now.items _ (of_no_numbers _);
}

pub loop-j-preserved : goal.loop-j-preserved
loop-j-preserved g c =
    let so_far = c.loop-j.invariant in
    let done = c.in_ok-push_block.ensures in
    record {
      mount = search rules;
      reads = reads_then so_far.goes.later so_far.reads done.reads;
      goes = goes_then so_far.goes done.goes;
      entries = λ image told of.
          adds_one item_of c.args.into.now.items c.loop-j.into.items c.push_block.new.into.items (λ i. items_under image 0 i (address_word c.args.inode.now i)) c.loop-j.j
          (so_far.entries image told of)
          (done.entries image (so_far.reads.told ∙ told) of
          ∙ λ i. map item_of c.loop-j.into.items ++ legal (items_under image 0 (c.from.ensures i) (c.address_at-address.ensures i)));
    }
