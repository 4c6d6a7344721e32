use Rattle.std.proofs.Common.{ap, ◌∙◌}
use Rattle.std.proofs.lemmas.Result.{IfOk-weaker}
use Rattle.f2_sum.specs.Records.{sit_entry}
use Rattle.f2_tables.specs.Tables.{sit_dirty}
use Rattle.f2_tables.proofs.Marks.{dirty-as}
use Rattle.f2_tables.proofs.sit.Sit.dirty.Goals as goal

pub returns : goal.returns
unfolding sit_dirty
returns c =
    let newer = c.self.inside.newer in
    let l = c.self.inside.layout in
    IfOk-weaker c.blocks-2.result _ _ (λ v is. is ∙ dirty-as sit_entry 55 l.segments l.sit_half newer ∙ ap sit_dirty c.self.view_is) c.blocks-2.ensures
