use Rattle.std.proofs.Common.{◌≡◌, Some, sym, ap, ◌∙◌}
use Rattle.std.specs.BTreeMap.{get_by}
use Rattle.std.specs.Cmp.Lexicographic.{slice_cmp}
use Rattle.std.specs.Ordering.{nat_cmp}
use Rattle.std.specs.Str.{bytes_eq}
use Rattle.f2_items.proofs.NamePlaceSteps.{others, known_first, known_holds, new_first, new_holds}
use Rattle.f2_items.proofs.name_places.NamePlaces.first.Goals as goal

pub returns-in-Some-clause-holds : goal.returns-in-Some-clause-holds
returns-in-Some-clause-holds c = λ items item name place holds.
    known_holds items item c.args.self.now holds c.in-Some.first
    ((λ t. get_by (λ k. slice_cmp nat_cmp (name t) k.items) c.args.self.now.places) ∙ sym c.get.ensures.value ∙ sym c.copied.ensures ∙ c.in-Some.is)

pub returns-in-Some-clause-first : goal.returns-in-Some-clause-first
returns-in-Some-clause-first c = λ items item name place holds.
    known_first items item c.args.self.now holds c.in-Some.first
    ((λ t. get_by (λ k. slice_cmp nat_cmp (name t) k.items) c.args.self.now.places) ∙ sym c.get.ensures.value ∙ sym c.copied.ensures ∙ c.in-Some.is)

pub returns-in_ok-insert-in-None-clause-holds : goal.returns-in_ok-insert-in-None-clause-holds
returns-in_ok-insert-in-None-clause-holds c = λ items item name place holds.
    let key = c.in_ok-key-in-None.key in
    let spelled : key.items ≡ c.args.name.now = c.in_ok-key-in-None.ensures.items_if_clones_equal (λ x y e. e) in
    let same : item.name ≡ key.items = name ∙ sym spelled in
    let updates = c.in_ok-insert-in-None.ensures.updates in
    new_holds items item c.args.self.now _ holds
    ((λ t. get_by (λ k. slice_cmp nat_cmp (name t) k.items) c.args.self.now.places) ∙ sym c.get.ensures.value ∙ sym c.copied.ensures ∙ c.in-None.is)
    ((λ t. get_by (λ k. slice_cmp nat_cmp (same t) k.items) c.insert.new.self) ∙ updates.1 ∙ ap Some (sym place))
    (λ other e. others c.args.self.now.places c.insert.new.self key c.args.place updates other ((λ t. bytes_eq (sym same t) other) ∙ e))

pub returns-in_ok-insert-in-None-clause-first : goal.returns-in_ok-insert-in-None-clause-first
returns-in_ok-insert-in-None-clause-first c = λ items item name place holds.
    new_first items item c.args.self.now c.args.self.now holds
    ((λ t. get_by (λ k. slice_cmp nat_cmp (name t) k.items) c.args.self.now.places) ∙ sym c.get.ensures.value ∙ sym c.copied.ensures ∙ c.in-None.is)
    ∙ ap Some place
