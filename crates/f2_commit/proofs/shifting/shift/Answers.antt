use Rattle.std.proofs.Common.{◌+◌, ◌≤◌, sym, subst, ◌∙◌}
use Rattle.f2_bytes.specs.Checkpoint.{checkpoint_ver}
use Rattle.f2_disk.proofs.Runs.{goes_then}
use Rattle.f2_view.specs.Mounted.{Mounted, IsMountOf}
use Rattle.f2_commit.specs.Moves.{HasSameFiles}
use Rattle.f2_change.specs.Writes.{OldOrNew, committed}
use Rattle.f2_commit.proofs.ShiftWhole.{some_has, own_files, still_checked, read_alone, read_before}
use Rattle.f2_commit.proofs.shifting.shift.Goals as goal

pub returns-in_err-ready-clause-either : goal.returns-in_err-ready-clause-either
returns-in_err-ready-clause-either g c = λ image told. (image, c.ready_to_move.ensures.reads.told ∙ told, own_files image (c.requires.checked image told))

pub returns-in_err-ready-clause-any_moment : goal.returns-in_err-ready-clause-any_moment
returns-in_err-ready-clause-any_moment g c = λ calm image told.
    read_alone image (HasSameFiles image) (g.met.D.Disk.only_now c.args.d.now) (λ left may. g.met.D.Disk.settled c.args.d.now left calm may) told
    (own_files image (c.requires.checked image told)) c.ready_to_move.ensures.reads

pub returns-in-None-clause-moved : goal.returns-in-None-clause-moved
returns-in-None-clause-moved g c = λ image told. absurd (c.in_ok-ready.ensures.some image told c.in-None.is)

pub returns-in-None-clause-either : goal.returns-in-None-clause-either
returns-in-None-clause-either g c = λ image told. (image, c.in_ok-ready.ensures.reads.told ∙ told, own_files image (c.requires.checked image told))

pub returns-in-None-clause-any_moment : goal.returns-in-None-clause-any_moment
returns-in-None-clause-any_moment g c = λ calm image told.
    read_alone image (HasSameFiles image) (g.met.D.Disk.only_now c.args.d.now) (λ left may. g.met.D.Disk.settled c.args.d.now left calm may) told
    (own_files image (c.requires.checked image told)) c.in_ok-ready.ensures.reads

pub returns-in_ok-commit-in-Some-clause-moved : goal.returns-in_ok-commit-in-Some-clause-moved
returns-in_ok-commit-in-Some-clause-moved g c = λ image told.
    let there = c.in_ok-ready.ensures.reads.told ∙ told in
    (committed c.in-Some.ready image, c.in_ok-commit-in-Some.ensures.done image there, some_has _ _ _ c.in-Some.is c.in_ok-ready.ensures.moves image told, c.in_ok-commit-in-Some.ensures.renewed image there)

pub returns-in_ok-commit-in-Some-clause-either : goal.returns-in_ok-commit-in-Some-clause-either
returns-in_ok-commit-in-Some-clause-either g c = λ image told.
    let now = c.commit.ensures.either image (c.in_ok-ready.ensures.reads.told ∙ told) in
    let kept = still_checked image c.args.addrs.now c.args.targets.now c.in-Some.ready now.0 (c.requires.checked image told) (some_has _ _ _ c.in-Some.is c.in_ok-ready.ensures.moves image told) now.2 in
    (now.0, now.1, kept)

pub returns-in_ok-commit-in-Some-clause-any_moment : goal.returns-in_ok-commit-in-Some-clause-any_moment
returns-in_ok-commit-in-Some-clause-any_moment g c = λ calm image told.
    let up = c.in_ok-ready.ensures in
    read_before image (HasSameFiles image) (OldOrNew image c.in-Some.ready) (g.met.D.Disk.only_now c.args.d.now) (λ left may. g.met.D.Disk.settled c.args.d.now left calm may) told
    (own_files image (c.requires.checked image told)) up.reads up.goes.later
    (λ left outcome. still_checked image c.args.addrs.now c.args.targets.now c.in-Some.ready left (c.requires.checked image told) (some_has _ _ _ c.in-Some.is c.in_ok-ready.ensures.moves image told) outcome)
    (c.commit.ensures.any_moment (up.reads.pending ∙ calm) image (up.reads.told ∙ told))

pub returns-in_err-commit-in-Some-clause-either : goal.returns-in_err-commit-in-Some-clause-either
returns-in_err-commit-in-Some-clause-either g c = λ image told.
    let now = c.commit.ensures.either image (c.in_ok-ready.ensures.reads.told ∙ told) in
    let kept = still_checked image c.args.addrs.now c.args.targets.now c.in-Some.ready now.0 (c.requires.checked image told) (some_has _ _ _ c.in-Some.is c.in_ok-ready.ensures.moves image told) now.2 in
    (now.0, now.1, kept)

pub returns-in_err-commit-in-Some-clause-any_moment : goal.returns-in_err-commit-in-Some-clause-any_moment
returns-in_err-commit-in-Some-clause-any_moment g c = λ calm image told.
    let up = c.in_ok-ready.ensures in
    read_before image (HasSameFiles image) (OldOrNew image c.in-Some.ready) (g.met.D.Disk.only_now c.args.d.now) (λ left may. g.met.D.Disk.settled c.args.d.now left calm may) told
    (own_files image (c.requires.checked image told)) up.reads up.goes.later
    (λ left outcome. still_checked image c.args.addrs.now c.args.targets.now c.in-Some.ready left (c.requires.checked image told) (some_has _ _ _ c.in-Some.is c.in_ok-ready.ensures.moves image told) outcome)
    (c.commit.ensures.any_moment (up.reads.pending ∙ calm) image (up.reads.told ∙ told))

pub returns-in_err-commit-in-Some-clause-goes : goal.returns-in_err-commit-in-Some-clause-goes
returns-in_err-commit-in-Some-clause-goes g c = goes_then c.in_ok-ready.ensures.goes c.commit.ensures.goes

pub returns-in_ok-commit-in-Some-clause-goes : goal.returns-in_ok-commit-in-Some-clause-goes
returns-in_ok-commit-in-Some-clause-goes g c = goes_then c.in_ok-ready.ensures.goes c.commit.ensures.goes

pub returns-in_ok-commit-in-Some-clause-version : goal.returns-in_ok-commit-in-Some-clause-version
returns-in_ok-commit-in-Some-clause-version g c =
    subst (λ (n : Mounted). checkpoint_ver n.chosen.head ≤ checkpoint_ver c.args.m.chosen.head + 2) (sym c.in_ok-commit-in-Some.ensures.mount) (some_has _ _ _ c.in-Some.is c.in_ok-ready.ensures.near)

pub commit-requires-clause-of_image : goal.commit-requires-clause-of_image
commit-requires-clause-of_image g c = λ image now.
    let up = c.in_ok-ready.ensures in
    subst (IsMountOf image) (sym up.mount) (c.requires.of_image image (sym up.reads.told ∙ now))
