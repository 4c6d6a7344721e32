use Rattle.std.proofs.Common.{subst, sym, ◌∙◌}
use Rattle.f2_view.specs.Mounted.{Mounted, IsMountOf}
use Rattle.f2_view.proofs.TableReadings.{live_reading}
use Rattle.f2_view.proofs.accessors.Mount.live.Goals as goal

pub returns-clause-next : goal.returns-clause-next
returns-clause-next g c = λ image told of.
    let m : Mounted = record { found = c.self.inside.found; chosen = c.self.inside.chosen } in
    let mine = subst (λ (x : Mounted). IsMountOf image x) (sym c.self.view_is) of in
    c.in_ok-live.ensures.next image told ∙ live_reading image m c.self.inside.nat c.args.from mine c.self.invariant.nat_opened
