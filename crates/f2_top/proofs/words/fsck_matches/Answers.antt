use Rattle.std.proofs.Common.{codes}
use Rattle.f2_top.specs.Tools.{fsck_grammar}
use Rattle.f2_top.proofs.Grammars.{fsck_named}
use Rattle.f2_top.proofs.words.fsck_matches.Goals as goal

pub returns-in-Ok : goal.returns-in-Ok
returns-in-Ok c = c.parse.ensures (codes "fsck") fsck_grammar fsck_named c.in-Ok.ensures
