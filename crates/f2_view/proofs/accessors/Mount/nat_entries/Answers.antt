use Rattle.std.proofs.Common.{◌≡◌, map, ap, subst, sym, ◌∙◌}
use Rattle.f2_bytes.specs.Bytes.{numbers_below}
use Rattle.f2_bytes.specs.NodeAddressTable.{nid_limit}
use Rattle.f2_view.specs.Mounted.{Mounted, IsMountOf, layout_in}
use Rattle.f2_view.proofs.TableReadings.{nat_reading}
use Rattle.f2_view.proofs.accessors.Mount.nat_entries.Goals as goal

pub returns-clause-entries : goal.returns-clause-entries
returns-clause-entries g c = λ image told of.
    let m : Mounted = record { found = c.self.inside.found; chosen = c.self.inside.chosen } in
    let t = c.self.inside.nat in
    let mine = subst (λ (x : Mounted). IsMountOf image x) (sym c.self.view_is) of in
    let own : t.layout ≡ layout_in c.args.self.now = c.self.invariant.nat_opened.layout ∙ ap layout_in c.self.view_is in
    c.in_ok-entries.ensures.entries image told
    ∙ λ i. map (λ nid. nat_reading image m t mine c.self.invariant.nat_opened nid i) (numbers_below (nid_limit (own i)))
