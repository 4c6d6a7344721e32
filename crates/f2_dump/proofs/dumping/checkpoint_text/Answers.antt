use Rattle.std.proofs.Common.{◌++◌, ◌∙◌, ap}
use Rattle.f2_bytes.specs.Checkpoint.{checkpoint_rows}
use Rattle.f2_dump.specs.Fields.{field_lines, checkpoint_names}
use Rattle.f2_dump.proofs.dumping.checkpoint_text.Goals as goal

pub returns-clause-lines : goal.returns-clause-lines
returns-clause-lines c =
    let head = c.block-head.ensures.same ∙ c.head.ensures.value ∙ ap (λ h. h.head) c.chosen.ensures in
    c.in_ok-push_fields.ensures.lines ∙ (λ i. c.new-text.ensures.items i ++ field_lines checkpoint_names checkpoint_rows (head i))
