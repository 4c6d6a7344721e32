use Rattle.std.proofs.Common.{◌≡◌, length, get_or, map, [], Vec, Global, List, vec_len, sym, ap, ◌∙◌, arith}
use Rattle.std.proofs.lemmas.Bool.{eqb-true}
use Rattle.std.proofs.lemmas.List.{get_or-map, length-map, nil_from_length}
use Rattle.f2_survey.specs.declared.owners.Claim.{Claim}
use Rattle.f2_survey.specs.OwnerTables.{OwnerTable}
use Rattle.f2_survey.proofs.OwnedSegments.{idle-segment}
use Rattle.f2_survey.proofs.owners.Owners.is_idle.Goals as goal

pub returns-in-Some : goal.returns-in-Some
returns-in-Some c = λ image owners inside idle k low.
    let table = c.in-Some.table.now in
    let rows = c.self.inside.tables.items in
    let view : c.args.self.now.tables ≡ map (λ (t : Vec Claim Global). t.items) rows = ap (λ (o : OwnerTable). o.tables) (sym c.self.view_is) in
    let long = ap length view ∙ length-map rows (λ (t : Vec Claim Global). t.items) in
    let there : table ≡ get_or rows c.args.segno table = c.in-Some.ensures.lookup.1 ∙ ap (λ (l : List (Vec Claim Global)). get_or l c.args.segno table) c.deref.ensures.value in
    let none : length table.items ≡ 0 = omega (arith, table.ok.0, eqb-true (vec_len table) 0 (sym c.is_empty.ensures ∙ idle)) in
    idle-segment image c.args.self.now c.args.segno k owners inside
    (ap (λ (l : List (List Claim)). get_or l c.args.segno []) view
    ∙ get_or-map (λ (t : Vec Claim Global). t.items) rows c.args.segno table [] (omega (arith, owners.lies.segments, long, inside))
    ∙ ap (λ (t : Vec Claim Global). t.items) (sym there)
    ∙ nil_from_length table.items none)
    low
