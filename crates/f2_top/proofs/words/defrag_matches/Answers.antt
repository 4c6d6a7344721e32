use Rattle.std.proofs.Common.{codes}
use Rattle.f2_top.specs.Tools.{defrag_grammar}
use Rattle.f2_top.proofs.Grammars.{defrag_named}
use Rattle.f2_top.proofs.words.defrag_matches.Goals as goal

pub returns-in-Ok : goal.returns-in-Ok
returns-in-Ok c = c.parse.ensures (codes "defrag") defrag_grammar defrag_named c.in-Ok.ensures
