use Rattle.std.proofs.Common.{codes}
use Rattle.f2_top.specs.Tools.{mkfs_grammar}
use Rattle.f2_top.proofs.Grammars.{mkfs_named}
use Rattle.f2_top.proofs.words.mkfs_matches.Goals as goal

pub returns-in-Ok : goal.returns-in-Ok
returns-in-Ok c = c.parse.ensures (codes "mkfs") mkfs_grammar mkfs_named c.in-Ok.ensures
