use Rattle.f2_gather.specs.Gathering.{addresses_of}
use Rattle.f2_commit.proofs.MovedWords.{shifted_inode}
use Rattle.f2_commit.proofs.moved_nodes.moved_inode.Goals as goal

pub returns : goal.returns
returns c =
    shifted_inode c.args.l.now c.args.targets.now (addresses_of c.args.moved.now) c.args.b.now c.drop_extent.new.b c.bytes.ensures.block c.move_slots.new.b c.requires.inode c.move_slots.ensures
    c.drop_extent.ensures
