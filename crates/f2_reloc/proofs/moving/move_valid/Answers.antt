use Rattle.std.proofs.Common.{refl, sym, subst, ◌∙◌, arith}
use Rattle.f2_commit.specs.Moves.{HasSameFiles}
use Rattle.f2_disk.proofs.Runs.{reads_first, at_rest, goes_then}
use Rattle.f2_view.specs.Mounted.{IsMountOf}
use Rattle.f2_reloc.proofs.Rests.{own_files, reads_rest}
use Rattle.f2_reloc.proofs.moving.move_valid.Goals as goal

pub returns-in_err-takes-clause-any_moment : goal.returns-in_err-takes-clause-any_moment
returns-in_err-takes-clause-any_moment g c = λ calm image told.
    let d = c.args.d.now in
    reads_rest c.need_for.ensures.reads (at_rest (g.D.Disk.state d) image (HasSameFiles image) (g.met.D.Disk.only_now d) (λ x left. g.met.D.Disk.settled d x calm left) told (own_files image (c.requires.checked image told)))

pub returns-then-takes-targets-clause-moved : goal.returns-then-takes-targets-clause-moved
returns-then-takes-targets-clause-moved g c = λ image told.
    let need = c.in_ok-takes.ensures.need image told c.requires.few in
    let enough = (c.requires.targets image told).enough in
    let over = c.if-takes-targets.true in
    absurd (omega (arith, need, enough, over))

pub returns-then-takes-targets-clause-any_moment : goal.returns-then-takes-targets-clause-any_moment
returns-then-takes-targets-clause-any_moment g c = λ calm image told.
    let d = c.args.d.now in
    reads_rest c.need_for.ensures.reads (at_rest (g.D.Disk.state d) image (HasSameFiles image) (g.met.D.Disk.only_now d) (λ x left. g.met.D.Disk.settled d x calm left) told (own_files image (c.requires.checked image told)))

pub shift-requires-clause-of_image : goal.shift-requires-clause-of_image
shift-requires-clause-of_image g c = λ image told. subst (IsMountOf image) (sym c.need_for.ensures.mount) (c.requires.of_image image (sym c.need_for.ensures.reads.told ∙ told))

pub shift-requires-clause-targets : goal.shift-requires-clause-targets
shift-requires-clause-targets g c = λ image told. c.requires.targets image (sym c.need_for.ensures.reads.told ∙ told)

pub returns-in_err-n-clause-any_moment : goal.returns-in_err-n-clause-any_moment
returns-in_err-n-clause-any_moment g c = λ calm image told.
    let d = c.args.d.now in
    let reads = c.need_for.ensures.reads in
    reads_first reads c.need_for.ensures.goes.later
    (at_rest (g.D.Disk.state d) image (HasSameFiles image) (g.met.D.Disk.only_now d) (λ x left. g.met.D.Disk.settled d x calm left) told (own_files image (c.requires.checked image told)))
    (c.shift.ensures.any_moment (reads.pending ∙ calm) image (reads.told ∙ told))

pub returns-in_err-n-clause-goes : goal.returns-in_err-n-clause-goes
returns-in_err-n-clause-goes g c = goes_then c.need_for.ensures.goes c.shift.ensures.goes

pub returns-clause-moved : goal.returns-clause-moved
returns-clause-moved g c = λ image told.
    let done = c.in_ok-n.ensures.moved image (c.need_for.ensures.reads.told ∙ told) in
    (done.0, done.1, done.3, done.2, refl, c.in_ok-takes.ensures.need image told c.requires.few)

pub returns-clause-any_moment : goal.returns-clause-any_moment
returns-clause-any_moment g c = λ calm image told.
    let d = c.args.d.now in
    let reads = c.need_for.ensures.reads in
    reads_first reads c.need_for.ensures.goes.later
    (at_rest (g.D.Disk.state d) image (HasSameFiles image) (g.met.D.Disk.only_now d) (λ x left. g.met.D.Disk.settled d x calm left) told (own_files image (c.requires.checked image told)))
    (c.shift.ensures.any_moment (reads.pending ∙ calm) image (reads.told ∙ told))

pub returns-clause-goes : goal.returns-clause-goes
returns-clause-goes g c = goes_then c.need_for.ensures.goes c.shift.ensures.goes
