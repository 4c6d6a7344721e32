use Rattle.std.proofs.Common.{sym}
use Rattle.f2_gather.specs.Gathering.{addresses_of}
use Rattle.f2_commit.proofs.MovedWords.{shifted_direct}
use Rattle.f2_commit.proofs.moved_nodes.moved_direct.Goals as goal

pub returns : goal.returns
returns c =
    shifted_direct c.args.l.now c.args.targets.now (addresses_of c.args.moved.now) c.args.b.now c.move_words.new.b c.bytes.ensures.block c.requires.node (sym c.requires.direct) c.move_words.ensures
