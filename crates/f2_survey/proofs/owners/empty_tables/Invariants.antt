use Rattle.std.proofs.Common.{◌≡◌, Vec, Global, List, [], map, replicate}
use Rattle.f2_survey.specs.declared.owners.Claim.{Claim}
use Rattle.f2_survey.proofs.owners.empty_tables.Given as goal

-- so many tables, none of which has places
abbrev pub invariant-loop-s : goal.invariant-loop-s
invariant-loop-s l = ◌≡◌ {A = List (List Claim)} (map (λ (t : Vec Claim Global). t.items) l.tables.items) (replicate l._s [])
