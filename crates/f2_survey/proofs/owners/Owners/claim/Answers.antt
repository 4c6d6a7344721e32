use Rattle.std.proofs.Common.{◌==◌, ◌&&◌, length, cond, refl, sym, ap, ◌∙◌}
use Rattle.f2_bytes.specs.Check.{is_address}
use Rattle.f2_survey.specs.declared.owners.Owner.TheVariants.{Slot}
use Rattle.f2_survey.specs.OwnerTables.{OwnerTable, has_block, is_nobody, owner_kept}
use Rattle.f2_survey.proofs.OwnerClaims.{claim-broken, claim-breaks, claim-first}
use Rattle.f2_survey.proofs.owners.Owners.claim.Goals as goal

pub returns-then-self-clause-claims : goal.returns-then-self-clause-claims
returns-then-self-clause-claims c = λ image slots s address nid place names has.
    claim-broken image slots s (ap is_address address ∙ names) c.args.self.now has (ap (λ (o : OwnerTable). o.spoiled) (sym c.self.view_is) ∙ c.if-self.true)

pub returns-then-not-is_free-clause-claims : goal.returns-then-not-is_free-clause-claims
returns-then-not-is_free-clause-claims c = λ image slots s address nid place names has.
    let o = c.args.self.now in
    claim-breaks image slots s (ap is_address address ∙ names) o _ has (ap (λ (o : OwnerTable). o.spoiled) (sym c.self.view_is) ∙ c.if-self.false)
    (ap (λ a. has_block o a && is_nobody (owner_kept o a)) address ∙ sym c.is_free.ensures ∙ c.if-not-is_free.true)
    (ap (λ (o : OwnerTable). o.main) c.self.view_is) (ap (λ (o : OwnerTable). length o.tables) c.self.view_is) refl

pub returns-clause-claims : goal.returns-clause-claims
returns-clause-claims c = λ image slots s address nid place names has.
    let o = c.args.self.now in
    let put = c.in_ok-put.ensures in
    claim-first image slots s (ap is_address address ∙ names) o c.put.new.self has (ap (λ (o : OwnerTable). o.spoiled) (sym c.self.view_is) ∙ c.if-self.false)
    (ap (λ a. has_block o a && is_nobody (owner_kept o a)) address ∙ sym c.is_free.ensures ∙ c.if-not-is_free.false)
    put.main put.segments put.spoiled
    (λ a low. put.kept a low ∙ (λ i. cond (a == sym address i) (Slot (sym nid i) (sym place i)) (owner_kept o a)))
