use Rattle.std.proofs.Common.{◌≡◌, Vec, Global, List, [], ◌∷◌, ◌++◌, map, length, get_or, sym, ap, ◌∙◌, arith}
use Rattle.std.proofs.lemmas.List.{map_push, replicate_more, length-map, length-replicate}
use Rattle.f2_survey.specs.declared.owners.Claim.{Claim}
use Rattle.f2_survey.specs.declared.owners.Claim.TheVariants.{Nobody}
use Rattle.f2_survey.specs.OwnerTables.{owner_claimed}
use Rattle.f2_survey.proofs.OwnerPlaces.{read-empty}
use Rattle.f2_survey.proofs.owners.empty_tables.Goals as goal

pub loop-s-preserved : goal.loop-s-preserved
loop-s-preserved c =
    let places = λ (t : Vec Claim Global). t.items in
    ap (λ (l : List (Vec Claim Global)). map places l) c.in_ok-push.ensures.items
    ∙ map_push places c.loop-s.tables.items c.new.result
    ∙ (λ i. c.loop-s.invariant i ++ c.new.ensures.items i ∷ [])
    ∙ replicate_more c.loop-s._s []

pub returns-clause-length : goal.returns-clause-length
returns-clause-length c =
    let places = λ (t : Vec Claim Global). t.items in
    let n : length c.loop-s.tables.items ≡ c.loop-s._s =
    sym (length-map c.loop-s.tables.items places) ∙ ap length c.loop-s.invariant ∙ length-replicate c.loop-s._s (let none : List Claim = [] in none) in
    omega (arith, n)

pub returns-clause-empty : goal.returns-clause-empty
returns-clause-empty c = λ s p.
    ap (λ (l : List (List Claim)). owner_claimed (get_or (get_or l s []) p Nobody)) c.loop-s.invariant
    ∙ ap owner_claimed (read-empty c.loop-s._s s p Nobody)
