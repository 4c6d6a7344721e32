use Rattle.std.proofs.Common.{◌+◌, map, sym, arith}
use Rattle.std.proofs.lemmas.List.{get_or-map}
use Rattle.f2_gather.specs.declared.gathering.MovedBlock.{MovedBlock}
use Rattle.f2_commit.specs.Moves.{node_summary}
use Rattle.f2_commit.specs.Shifting.{data_summary}
use Rattle.f2_commit.proofs.PlacedBlocks.{entries-more}
use Rattle.f2_commit.proofs.moved_blocks.put_data_sums.Goals as goal

pub loop-k-preserved : goal.loop-k-preserved
loop-k-preserved c =
    let none : MovedBlock = record { address = 0; nid = 0; version = 0; place = 0 } in
    let at = c.args.first + c.loop-k.k in
    entries-more c.loop-k.bytes c.put_summary.new.b (map data_summary c.args.moved.now) c.args.first c.loop-k.k _ c.loop-k.invariant c.put_summary.ensures.read c.put_summary.ensures.others
    (sym (get_or-map data_summary c.args.moved.now at none (node_summary 0) (omega arith)))
