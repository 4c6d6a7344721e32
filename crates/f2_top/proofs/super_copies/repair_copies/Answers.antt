use Rattle.std.proofs.Common.{◌≡◌, ◌∙◌, Some}
use Rattle.f2_bytes.specs.Superblock.{super_of}
use Rattle.f2_disk.proofs.Runs.{reads_first, at_rest}
use Rattle.f2_top.proofs.Repairing.{always_then}
use Rattle.f2_top.proofs.super_copies.repair_copies.Goals as goal

pub returns-in-Ok-repair-clause-any_moment : goal.returns-in-Ok-repair-clause-any_moment
returns-in-Ok-repair-clause-any_moment g c = λ calm image told s has.
    let d = c.args.disk.now in
    let reads = c.load.ensures.reads in
    reads_first reads c.load.ensures.goes.later (at_rest (g.D.Disk.state d) image (λ x. super_of x ≡ Some s) (g.met.D.Disk.only_now d) (λ x left. g.met.D.Disk.settled d x calm left) told has)
    (c.repair.ensures.any_moment (reads.pending ∙ calm) image (reads.told ∙ told) s has)

pub returns-in-Err-clause-any_moment : goal.returns-in-Err-clause-any_moment
returns-in-Err-clause-any_moment g c = λ calm image told s has.
    let d = c.args.disk.now in
    let reads = c.load.ensures.reads in
    reads_first reads c.load.ensures.goes.later (at_rest (g.D.Disk.state d) image (λ x. super_of x ≡ Some s) (g.met.D.Disk.only_now d) (λ x left. g.met.D.Disk.settled d x calm left) told has)
    (c.repair.ensures.any_moment (reads.pending ∙ calm) image (reads.told ∙ told) s has)

pub returns-in-Ok-repair-clause-repairing : goal.returns-in-Ok-repair-clause-repairing
returns-in-Ok-repair-clause-repairing g c =
    let d = c.args.disk.now in
    always_then (g.D.Disk.state d) (g.met.D.Disk.only_now d) (λ x calm left. g.met.D.Disk.settled d x calm left) c.in-Ok.found
    (g.D.Disk.state c.load.new.d) (g.D.Disk.state c.repair.new.d) c.load.ensures.reads c.load.ensures.goes.later c.in-Ok.ensures.exact c.repair.ensures.repairing

pub returns-in-Err-clause-repairing : goal.returns-in-Err-clause-repairing
returns-in-Err-clause-repairing g c =
    let d = c.args.disk.now in
    always_then (g.D.Disk.state d) (g.met.D.Disk.only_now d) (λ x calm left. g.met.D.Disk.settled d x calm left) c.in-Ok.found
    (g.D.Disk.state c.load.new.d) (g.D.Disk.state c.repair.new.d) c.load.ensures.reads c.load.ensures.goes.later c.in-Ok.ensures.exact c.repair.ensures.repairing
