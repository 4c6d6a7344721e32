use Rattle.std.proofs.Common.{subst, sym, ◌∙◌}
use Rattle.f2_view.specs.Mounted.{Mounted, IsMountOf}
use Rattle.f2_view.proofs.TableReadings.{sit_reading}
use Rattle.f2_view.proofs.accessors.Mount.sit_entry.Goals as goal

pub returns-clause-entry : goal.returns-clause-entry
returns-clause-entry g c = λ image told of.
    let m : Mounted = record { found = c.self.inside.found; chosen = c.self.inside.chosen } in
    let mine = subst (λ (x : Mounted). IsMountOf image x) (sym c.self.view_is) of in
    c.in_ok-get.ensures.entry image told ∙ sit_reading image m c.self.inside.sit mine c.self.invariant.sit_opened c.args.segno
