use Rattle.std.proofs.Common.{◌+◌, refl, sym, subst, arith}
use Rattle.f2_commit.proofs.PlacedBlocks.{PlacedSoFar, placed-none, placed-more, placed-all}
use Rattle.f2_commit.proofs.moved_blocks.moved_entries.Goals as goal

pub loop-n-init : goal.loop-n-init
loop-n-init c = subst (PlacedSoFar c.args.l.now c.args.node_targets.now c.args.nodes.now 0) (sym c.new-entries.ensures.items) (placed-none c.args.l.now c.args.node_targets.now c.args.nodes.now)

pub loop-n-preserved : goal.loop-n-preserved
loop-n-preserved c =
    subst (PlacedSoFar c.args.l.now c.args.node_targets.now c.args.nodes.now (c.loop-n.n + 1)) (sym c.in_ok-push.ensures.items)
    (placed-more c.args.l.now c.args.node_targets.now c.args.nodes.now c.loop-n.n c.loop-n.entries.items _ (0, record { version = 0; ino = 0; addr = 0 }) c.loop-n-test.true c.loop-n.invariant refl refl refl c.target_block-addr.ensures.value)

pub returns : goal.returns
returns c =
    placed-all c.args.l.now c.args.node_targets.now c.args.nodes.now c.loop-n.n c.loop-n.entries.items (omega arith) c.loop-n.invariant
