use Rattle.std.proofs.lemmas.Bool.{ltb-true}
use Rattle.f2_dent.proofs.page.Page.lacks_run.Goals as goal

pub returns : goal.returns
returns c = λ is slot. c.args.self.now.has_room.runs c.args.slots slot (ltb-true _ _ is)
