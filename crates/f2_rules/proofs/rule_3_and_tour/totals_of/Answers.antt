use Rattle.std.proofs.Common.{◌∙◌}
use Rattle.f2_rules.proofs.AddressesMet.{kept-total}
use Rattle.f2_rules.proofs.rule_3_and_tour.totals_of.Goals as goal

pub returns : goal.returns
returns c = λ image nodes inodes kept. record { nodes = c.from.ensures ∙ nodes; inodes = c.from-2.ensures ∙ inodes; slots = kept-total image c.args.kept.now kept }
