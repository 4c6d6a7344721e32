use Rattle.std.proofs.Common.{arith}
use Rattle.std.proofs.lemmas.List.{length-map}
use Rattle.f2_sum.specs.Records.{nat_entry}
use Rattle.f2_survey.proofs.KnownNodes.{known_limit}
use Rattle.f2_survey.proofs.nodes.Nodes.limit.Goals as goal

pub returns : goal.returns
returns c = λ image known. omega (arith, c.len.ensures, length-map c.self.inside.entries.items nat_entry, known_limit image c.self.view_is known)
