use Rattle.std.proofs.Common.{Some, sym, ap, ◌∙◌}
use Rattle.f2_items.proofs.TallySteps.{unnamed, named}
use Rattle.f2_items.proofs.name_counts.Tallies.parent.Goals as goal

pub returns-then-names-eq0 : goal.returns-then-names-eq0
returns-then-names-eq0 c = λ limit namings is low. sym (unnamed c.args.target namings (sym (c.names.ensures limit namings is low) ∙ c.if-names-eq0.true))

pub returns : goal.returns
returns c = λ limit namings is low.
    let first = named limit c.args.target namings c.args.self.now is low (λ none. c.if-names-eq0.false (c.names.ensures limit namings is low ∙ none)) in
    ap Some c.parent_at.ensures ∙ sym first
