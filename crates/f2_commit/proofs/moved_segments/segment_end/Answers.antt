use Rattle.f2_commit.proofs.LeftSegments.{later_segments}
use Rattle.f2_commit.proofs.moved_segments.segment_end.Goals as goal

pub returns-else-addresses-end-clause-later : goal.returns-else-addresses-end-clause-later
returns-else-addresses-end-clause-later c =
    later_segments c.args.addresses.now c.args.main c.args.from c.loop-end.end c.requires.ascending c.requires.main c.loop-end.invariant.some c.loop-end-test.true c.if-addresses-end.false
