use Rattle.std.proofs.Common.{sym, ◌∙◌}
use Rattle.f2_survey.proofs.KnownNodes.{of_another, of_this}
use Rattle.f2_survey.proofs.nodes.Nodes.offset_in.Goals as goal

pub returns-then-not-belongs : goal.returns-then-not-belongs
returns-then-not-belongs c = λ image known. of_another image c.args.nid c.args.ino (sym c.if-not-belongs.true ∙ c.belongs.ensures image known)

pub returns : goal.returns
returns c = λ image known. c.offset.ensures image known ∙ of_this image c.args.nid c.args.ino (sym c.if-not-belongs.false ∙ c.belongs.ensures image known)
