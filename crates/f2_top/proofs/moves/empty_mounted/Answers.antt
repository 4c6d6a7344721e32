use Rattle.std.proofs.Common.{◌∙◌, sym, subst}
use Rattle.f2_disk.proofs.Runs.{reads_then, goes_then}
use Rattle.f2_view.specs.Mounted.{IsMountOf}
use Rattle.f2_top.proofs.Moving.{always_read, always_then}
use Rattle.f2_top.proofs.moves.empty_mounted.Goals as goal

pub returns-in-Ok-clause-idle : goal.returns-in-Ok-clause-idle
returns-in-Ok-clause-idle g c = λ idle. reads_then c.check.ensures.goes.later c.check.ensures.reads (c.empty_if_clean.ensures.idle idle)

pub returns-in-Ok-clause-none : goal.returns-in-Ok-clause-none
returns-in-Ok-clause-none g c = λ image told none.
    reads_then c.check.ensures.goes.later c.check.ensures.reads (c.empty_if_clean.ensures.none image (c.check.ensures.reads.told ∙ told) none)

pub returns-in-Ok-clause-any_moment : goal.returns-in-Ok-clause-any_moment
returns-in-Ok-clause-any_moment g c =
    let d = c.args.disk.now in
    always_then (g.met.D.Disk.only_now d) (λ x calm left. g.met.D.Disk.settled d x calm left) c.check.ensures.reads c.check.ensures.goes.later c.empty_if_clean.ensures.any_moment

pub returns-in-Err-DiskFault-clause-any_moment : goal.returns-in-Err-DiskFault-clause-any_moment
returns-in-Err-DiskFault-clause-any_moment g c =
    let d = c.args.disk.now in
    always_read (g.met.D.Disk.only_now d) (λ x calm left. g.met.D.Disk.settled d x calm left) c.check.ensures.reads

pub returns-clause-any_moment : goal.returns-clause-any_moment
returns-clause-any_moment g c =
    let d = c.args.disk.now in
    always_read (g.met.D.Disk.only_now d) (λ x calm left. g.met.D.Disk.settled d x calm left) c.check.ensures.reads

pub empty_if_clean-requires-clause-of_image : goal.empty_if_clean-requires-clause-of_image
empty_if_clean-requires-clause-of_image g c = λ image now.
    subst (IsMountOf image) (sym c.check.ensures.mount) (c.requires.of_image image (sym c.check.ensures.reads.told ∙ now))

pub returns-in-Ok-clause-goes : goal.returns-in-Ok-clause-goes
returns-in-Ok-clause-goes g c = goes_then c.check.ensures.goes c.empty_if_clean.ensures.goes
