use Rattle.std.proofs.Common.{subst, sym}
use Rattle.f2_view.specs.Mounted.{Mounted, IsMountOf}
use Rattle.f2_view.proofs.Renewed.{renewed}
use Rattle.f2_view.proofs.accessors.Mount.renew.Goals as goal

pub returns-clause-of_image : goal.returns-clause-of_image
returns-clause-of_image c = λ old image is same counts chosen.
    let was : IsMountOf old (record { found = c.self.inside.found; chosen = c.self.inside.chosen }) = subst (λ (m : Mounted). IsMountOf old m) (sym c.self.view_is) is in
    subst (λ (m : Mounted). IsMountOf image m) (sym c.of.ensures) (renewed old image _ c.args.c was same counts chosen)
