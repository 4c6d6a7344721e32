use Rattle.std.proofs.Common.{◌≡◌, ℕ, true, All, rules, sym, ap, subst, ◌∙◌}
use Rattle.std.proofs.lemmas.List.{get_or-map}
use Rattle.std.proofs.lemmas.List.Elements.{All-push}
use Rattle.f2_bytes.specs.Bytes.{Block, block_at}
use Rattle.f2_bytes.specs.Superblock.{is_main}
use Rattle.f2_disk.proofs.Runs.{reads_same, reads_then, goes_then}
use Rattle.f2_gather.specs.declared.gathering.MovedBlock.{MovedBlock}
use Rattle.f2_gather.specs.Gathering.{addresses_of}
use Rattle.f2_commit.proofs.PlacedBlocks.{data-none, data-more}
use Rattle.f2_commit.proofs.moved_blocks.push_data_blocks.Goals as goal

pub loop-n-init : goal.loop-n-init
loop-n-init g c = record {
  reads = reads_same (g.D.Disk.state c.args.d.now);
  goes = search rules;
  blocks = λ image told. data-none image c.args.l.now c.args.targets.now (addresses_of c.args.moved.now) c.args.into.now.items;
  main = λ all. all;
}

pub loop-n-preserved : goal.loop-n-preserved
loop-n-preserved g c =
    let so_far = c.loop-n.invariant in
    let done = c.in_ok-block.ensures in
    let none : MovedBlock = record { address = 0; nid = 0; version = 0; place = 0 } in
    record {
      reads = reads_then so_far.goes.later so_far.reads done.reads;
      goes = goes_then so_far.goes done.goes;
      blocks = λ image told.
          data-more image c.args.l.now c.args.targets.now (addresses_of c.args.moved.now) c.args.into.now.items c.loop-n.into.items c.push.new.self.items c.loop-n.n c.target_block.result c.in_ok-block.block
          (so_far.blocks image told) c.in_ok-push.ensures.items c.target_block.ensures.value
          (done.block image (so_far.reads.told ∙ told) ∙ ap (block_at image) (sym (get_or-map (λ (b : MovedBlock). b.address) c.args.moved.now c.loop-n.n none 0 c.loop-n-test.true)));
      main = λ all.
          subst (All (λ (w : ℕ × Block). is_main c.args.l.now w.0 ≡ true)) (sym c.in_ok-push.ensures.items)
          (All-push (λ (w : ℕ × Block). is_main c.args.l.now w.0 ≡ true) c.loop-n.into.items (c.target_block.result, c.in_ok-block.block) (so_far.main all) c.target_block.ensures.main);
    }
