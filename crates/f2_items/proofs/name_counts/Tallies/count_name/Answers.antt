use Rattle.std.proofs.Common.{List, Bool, [], ◌∷◌, ◌++◌, cond, sym, subst}
use Rattle.f2_items.specs.Namings.{Naming, IsTally}
use Rattle.f2_items.proofs.name_counts.Tallies.count_name.Goals as goal

pub returns : goal.returns
returns c = λ limit namings is.
    subst (λ (b : Bool). IsTally limit (namings ++ cond {A = List Naming} b ((c.args.directory, c.args.target) ∷ []) []) c.count.new.self) (sym c.if-not-is_name.false) (c.in_ok-count.ensures limit namings is)
