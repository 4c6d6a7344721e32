use Rattle.std.proofs.Common.{◌≡◌, ℕ, [], ◌∷◌, ◌++◌, true, All, rules, sym, ap, subst, ◌∙◌}
use Rattle.std.proofs.lemmas.List.{append-nil, get_or-map}
use Rattle.std.proofs.lemmas.List.Elements.{All-push}
use Rattle.f2_bytes.specs.Bytes.{Block, block_at}
use Rattle.f2_bytes.specs.Superblock.{is_main}
use Rattle.f2_disk.proofs.Runs.{reads_same, reads_then, goes_then}
use Rattle.f2_sum.specs.declared.records.NatEntry.{NatEntry}
use Rattle.f2_gather.specs.Gathering.{addresses_of}
use Rattle.f2_commit.specs.Shifting.{IsShifted}
use Rattle.f2_commit.proofs.PlacedBlocks.{last_more, shifted-none, shifted-more}
use Rattle.f2_commit.proofs.moved_blocks.push_node_blocks.Goals as goal

pub loop-n-init : goal.loop-n-init
loop-n-init g c = record {
  reads = reads_same (g.D.Disk.state c.args.d.now);
  goes = search rules;
  blocks = λ image told. ([], sym (append-nil c.args.into.now.items), shifted-none image c.args.l.now c.args.targets.now (addresses_of c.args.moved.now) c.args.node_targets.now c.args.nodes.now);
  main = λ all. all;
}

pub loop-n-preserved : goal.loop-n-preserved
loop-n-preserved g c =
    let so_far = c.loop-n.invariant in
    let done = c.in_ok-block.ensures in
    let l = c.args.l.now in
    let targets = c.args.targets.now in
    let moved = addresses_of c.args.moved.now in
    let none : ℕ × NatEntry = (0, record { version = 0; ino = 0; addr = 0 }) in
    record {
      reads = reads_then so_far.goes.later so_far.reads done.reads;
      goes = goes_then so_far.goes done.goes;
      blocks = λ image told.
          let before = so_far.blocks image told in (
            before.0 ++ (c.target_block.result, c.moved_node-new.result) ∷ [],
            last_more c.args.into.now.items c.loop-n.into.items c.push.new.self.items before.0 (c.target_block.result, c.moved_node-new.result) before.1 c.in_ok-push.ensures.items,
            shifted-more image l targets moved c.args.node_targets.now c.args.nodes.now c.loop-n.n c.target_block.result c.moved_node-new.result before.0 before.2 c.target_block.ensures.value
                (subst (λ (b : Block). IsShifted l targets moved b c.moved_node-new.result)
                (done.block image (so_far.reads.told ∙ told) ∙ ap (block_at image) (sym (get_or-map (λ (w : ℕ × NatEntry). w.1.addr) c.args.nodes.now c.loop-n.n none 0 c.loop-n-test.true)))
                c.moved_node-new.ensures),
          );
      main = λ all.
          subst (All (λ (w : ℕ × Block). is_main l w.0 ≡ true)) (sym c.in_ok-push.ensures.items)
          (All-push (λ (w : ℕ × Block). is_main l w.0 ≡ true) c.loop-n.into.items (c.target_block.result, c.moved_node-new.result) (so_far.main all) c.target_block.ensures.main);
    }
