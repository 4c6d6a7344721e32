use Rattle.std.proofs.Common.{◌≡◌, map, ap, subst, sym, ◌∙◌}
use Rattle.f2_bytes.specs.declared.layout.Layout.{Layout}
use Rattle.f2_bytes.specs.Bytes.{numbers_below}
use Rattle.f2_view.specs.Mounted.{Mounted, IsMountOf, layout_in}
use Rattle.f2_view.proofs.TableReadings.{sit_reading}
use Rattle.f2_view.proofs.accessors.Mount.sit_entries.Goals as goal

pub returns-clause-entries : goal.returns-clause-entries
returns-clause-entries g c = λ image told of.
    let m : Mounted = record { found = c.self.inside.found; chosen = c.self.inside.chosen } in
    let t = c.self.inside.sit in
    let mine = subst (λ (x : Mounted). IsMountOf image x) (sym c.self.view_is) of in
    let own : t.layout ≡ layout_in c.args.self.now = c.self.invariant.sit_opened.layout ∙ ap layout_in c.self.view_is in
    c.in_ok-entries.ensures.entries image told
    ∙ λ i. map (λ segment. sit_reading image m t mine c.self.invariant.sit_opened segment i) (numbers_below (ap (λ (l : Layout). l.segments) own i))
