use Rattle.std.proofs.Common.{[], ◌∷◌, ◌++◌, get_or, map, refl, arith}
use Rattle.f2_commit.specs.Moves.{node_summary}
use Rattle.f2_commit.proofs.PlacedBlocks.{last_more, sums-more}
use Rattle.f2_commit.proofs.moved_blocks.push_node_sums.Goals as goal

pub loop-i-preserved : goal.loop-i-preserved
loop-i-preserved c =
    let so_far = c.loop-i.invariant in
    let segment = get_or c.args.node_targets.now c.loop-i.i 0 in (
      so_far.0 ++ (segment, c.node_sums.result) ∷ [],
      last_more c.args.into.now.items c.loop-i.into.items c.push.new.self.items so_far.0 (segment, c.node_sums.result) so_far.1 c.in_ok-push.ensures.items,
      sums-more c.args.node_targets.now 1 (map node_summary c.args.nids.now) c.loop-i.i segment c.node_sums.result so_far.0 (omega arith) so_far.2 refl c.node_sums.ensures,
    )
