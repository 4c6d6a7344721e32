use Rattle.std.proofs.Common.{◌∙◌, subst, sym}
use Rattle.f2_view.specs.Mounted.{Mounted, IsMountOf}
use Rattle.f2_view.proofs.Mounts.{mounts}
use Rattle.f2_view.proofs.mounting.mount.Goals as goal

pub returns-clause-of_image : goal.returns-clause-of_image
returns-clause-of_image g c = λ image told.
    let found = c.in_ok-found.found in
    let held = c.in_ok-chosen.chosen in
    let is = mounts (g.D.Disk.state c.args.d.now).size image found c.layout-layout.result held (c.in_ok-found.ensures.exact image told) c.layout-layout.ensures.value (c.in_ok-chosen.ensures.exact image (c.in_ok-found.ensures.reads.told ∙ told)) in
    subst (λ (m : Mounted). IsMountOf image m) (sym c.of.ensures) is
