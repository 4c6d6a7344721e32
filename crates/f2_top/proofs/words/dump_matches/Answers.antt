use Rattle.std.proofs.Common.{codes}
use Rattle.f2_top.specs.Tools.{dump_grammar}
use Rattle.f2_top.proofs.Grammars.{dump_named}
use Rattle.f2_top.proofs.words.dump_matches.Goals as goal

pub returns-in-Ok : goal.returns-in-Ok
returns-in-Ok c = c.parse.ensures (codes "dump") dump_grammar dump_named c.in-Ok.ensures
