use Rattle.std.proofs.Common.{[], ◌∷◌, ◌++◌, get_or, map, refl, arith}
use Rattle.f2_commit.specs.Shifting.{data_summary}
use Rattle.f2_commit.proofs.PlacedBlocks.{last_more, sums-more}
use Rattle.f2_commit.proofs.moved_blocks.push_data_sums.Goals as goal

pub loop-i-preserved : goal.loop-i-preserved
loop-i-preserved c =
    let so_far = c.loop-i.invariant in
    let segment = get_or c.args.targets.now c.loop-i.i 0 in (
      so_far.0 ++ (segment, c.data_sums.result) ∷ [],
      last_more c.args.into.now.items c.loop-i.into.items c.push.new.self.items so_far.0 (segment, c.data_sums.result) so_far.1 c.in_ok-push.ensures.items,
      sums-more c.args.targets.now 0 (map data_summary c.args.moved.now) c.loop-i.i segment c.data_sums.result so_far.0 (omega arith) so_far.2 refl c.data_sums.ensures,
    )
