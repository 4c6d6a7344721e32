use Rattle.std.proofs.Common.{subst, ◌∙◌}
use Rattle.f2_defects.specs.Collected.{Collects}
use Rattle.f2_rules.proofs.SlotParts.{repeats-part}
use Rattle.f2_rules.proofs.rule_4_repeats.repeat_defects.Goals as goal

pub returns-clause-repeats : goal.returns-clause-repeats
returns-clause-repeats g c = λ image told of known places.
    let claims = c.in_ok-claims.ensures.claims image told of known places in
    let counted = c.in_ok-defects.ensures.repeats image (c.in_ok-claims.ensures.reads.told ∙ told) of known places claims in
    subst (Collects c.in_ok-defects.field-0.defects) (repeats-part image) counted.defects
