use Rattle.std.proofs.Common.{◌≡◌, ℕ, ◌<◌, ◌≤◌, Vec, Global, List, [], length, map, get_or, refl, ap, subst, sym, ◌∙◌, arith}
use Rattle.std.proofs.lemmas.List.{map-set, length-map, get_or-map}
use Rattle.std.specs.Vec.{with_item}
use Rattle.f2_survey.specs.declared.owners.Claim.{Claim}
use Rattle.f2_survey.specs.declared.owners.Claim.TheVariants.{Nobody}
use Rattle.f2_survey.proofs.OwnerPlaces.{read-grown, read-put}
use Rattle.f2_survey.proofs.owners.put.Goals as goal
use Rattle.f2_survey.proofs.owners.put.Goals.{then-len-lt-IN_SEGMENT+in_ok-resize, else-len-lt-IN_SEGMENT}

-- the table reads as the one that was there, and has all places
record Reads (before table : List Claim) : Type 0 where
  room : 512 ≤ length table
  same : (k : ℕ) → get_or table k Nobody ≡ get_or before k Nobody

pub returns-clause-claim : goal.returns-clause-claim
returns-clause-claim c =
    let rows : List (List Claim) = map (λ (t : Vec Claim Global). t.items) c.args.tables.now.items in
    let table = c.if-len-lt-IN_SEGMENT.table in
    let before = c.index_mut-table.result.now in
    let there : get_or rows c.args.segment [] ≡ before.items =
    get_or-map (λ (t : Vec Claim Global). t.items) c.args.tables.now.items c.args.segment before [] c.requires.segment
    ∙ ap (λ (t : Vec Claim Global). t.items) (sym c.index_mut-table.ensures.value) in
    let reads : Reads before.items table.items =
    elim c.if-len-lt-IN_SEGMENT.branch as (λ _. Reads before.items table.items) [
      | then-len-lt-IN_SEGMENT+in_ok-resize w ↦
          (let new = w.resize.new.self in
          let long : length new.items ≡ 512 = sym new.ok.0 ∙ w.in_ok-resize.ensures.len in
          let short : length before.items < 512 = omega (arith, before.ok.0, c.len.ensures, w.if-len-lt-IN_SEGMENT.true) in
          let grown = read-grown before.items new.items Nobody 512 short long
          (λ k low. w.in_ok-resize.ensures.by_index.0 k Nobody (omega (arith, low, short)) (omega (arith, low, before.ok.0)))
          (λ k past inside. w.in_ok-resize.ensures.by_index.1 k Nobody refl (omega (arith, past, before.ok.0)) inside) in
          subst (λ (t : Vec Claim Global). Reads before.items t.items) (sym w.table-is) (record { room = omega (arith, long); same = grown }))
      | else-len-lt-IN_SEGMENT w ↦
          subst (λ (t : Vec Claim Global). Reads before.items t.items) (sym w.table-is)
          (record { room = omega (arith, before.ok.0, c.len.ensures, w.if-len-lt-IN_SEGMENT.false); same = λ k. refl })
    ] in
    λ s p.
    ap (λ (l : List (List Claim)). get_or (get_or l s []) p Nobody) (map-set (λ (t : Vec Claim Global). t.items) c.args.tables.now.items c.args.segment (with_item table c.args.place c.args.claim))
    ∙ read-put rows Nobody c.args.segment c.args.place table.items c.args.claim
    (subst (λ n. c.args.segment < n) (sym (length-map c.args.tables.now.items (λ (t : Vec Claim Global). t.items))) c.requires.segment)
    (omega (arith, reads.room, c.requires.place))
    (λ k. reads.same k ∙ ap (λ (t : List Claim). get_or t k Nobody) (sym there))
    s p
