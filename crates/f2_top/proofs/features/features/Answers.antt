use Rattle.std.proofs.Common.{rules, ◌≡◌, ◌∙◌, sym, ap, refl, None, option_map, bit_or}
use Rattle.f2_top.specs.Features.{feature_of, features_with}
use Rattle.f2_top.proofs.FeatureLists.{one_more, one_unknown, last_one}
use Rattle.f2_top.proofs.features.features.Goals as goal

pub returns-in_err-bits : goal.returns-in_err-bits
returns-in_err-bits c =
    let inv = c.loop-name.invariant.1 in
    let cut = c.in-Some.ensures.some in
    c.from_residual.ensures ∙ sym (inv.2 ∙ one_unknown inv.0 c.loop-name.rest.now c.loop-name.bits inv.1 cut.0 (ap feature_of (sym cut.1) ∙ sym c.feature.ensures ∙ c.in_err-bits.was))

pub loop-name-preserved : goal.loop-name-preserved
loop-name-preserved c =
    let inv = c.loop-name.invariant.1 in
    let cut = c.in-Some.ensures.some in
    let next = one_more inv.0 c.loop-name.rest.now c.loop-name.bits c.in_ok-bits.field-0 inv.1 cut.0 (ap feature_of (sym cut.1) ∙ sym c.feature.ensures ∙ c.in_ok-bits.was) in
    (search rules, (next.0, rw cut.2 next.1, inv.2 ∙ next.2 ∙ ap (features_with next.0 (bit_or c.loop-name.bits c.in_ok-bits.field-0)) (sym cut.2)))

pub returns-in_err-feature : goal.returns-in_err-feature
returns-in_err-feature c =
    let inv = c.loop-name.invariant.1 in
    let none : option_map (λ bit. bit_or c.loop-name.bits bit) (feature_of c.loop-name.rest.now) ≡ None = ap (option_map (λ bit. bit_or c.loop-name.bits bit)) (sym c.feature-2.ensures ∙ c.in_err-feature.was) in
    c.from_residual-in_err-feature.ensures ∙ sym (inv.2 ∙ last_one inv.0 c.loop-name.rest.now c.loop-name.bits (c.in_default.ensures.none refl) ∙ none)

pub returns : goal.returns
returns c =
    let inv = c.loop-name.invariant.1 in
    sym (inv.2 ∙ last_one inv.0 c.loop-name.rest.now c.loop-name.bits (c.in_default.ensures.none refl)
    ∙ ap (option_map (λ bit. bit_or c.loop-name.bits bit)) (sym c.feature-2.ensures ∙ c.in_ok-feature.was))
