use Rattle.std.proofs.Common.{◌∙◌, sym, map, string_bytes}
use Rattle.f2_top.proofs.Grammars.{super_job}
use Rattle.f2_top.proofs.words.job.Goals as goal

pub returns-then-are_super-clause-names : goal.returns-then-are_super-clause-names
returns-then-are_super-clause-names c = super_job (map string_bytes c.args.words.now) (sym c.are_super.ensures ∙ c.if-are_super.true)
