use Rattle.std.proofs.Common.{◌≤◌, ℕ, List, length, Err, sym, ap, subst, ◌∙◌, arith}
use Rattle.std.proofs.lemmas.Result.{IfOk-weaker}
use Rattle.f2_bytes.specs.declared.layout.Layout.{Layout}
use Rattle.f2_bytes.specs.Defragment.{defrag_need}
use Rattle.f2_commit.specs.Moves.{HasSameFiles}
use Rattle.f2_disk.proofs.Runs.{reads_first, at_rest, goes_then}
use Rattle.f2_view.specs.Mounted.{IsMountOf}
use Rattle.f2_view.proofs.TableReadings.{own_layout}
use Rattle.f2_reloc.specs.Emptying.{end_of, IsInside}
use Rattle.f2_commit.specs.declared.relocating.RelocRefusal.{RelocRefusal}
use Rattle.f2_reloc.proofs.Idle.{no_marks}
use Rattle.f2_reloc.proofs.Rests.{own_files, reads_rest, whole_blocks}
use Rattle.f2_reloc.proofs.Steps.{some_has, err_has}
use Rattle.f2_reloc.proofs.Way.{way_none}
use Rattle.f2_reloc.proofs.emptying.defrag.Goals as goal

pub returns-in_err-batches-clause-no_space : goal.returns-in_err-batches-clause-no_space
returns-in_err-batches-clause-no_space g c = λ need have e image told.
    let same = err_has _ _ _ e c.from_residual.ensures.1 in
    c.in_err-batches.ensures.no_space need have (ap (λ (x : RelocRefusal). Err x) (sym same)) image told

pub returns-in_err-batches-clause-any_moment : goal.returns-in_err-batches-clause-any_moment
returns-in_err-batches-clause-any_moment g c = λ calm image told.
    let d = c.args.d.now in
    reads_rest c.planned.ensures.reads (at_rest (g.D.Disk.state d) image (HasSameFiles image) (g.met.D.Disk.only_now d) (λ x left. g.met.D.Disk.settled d x calm left) told (own_files image (c.requires.checked image told)))

pub move_all-requires-clause-targets : goal.move_all-requires-clause-targets
move_all-requires-clause-targets g c = λ image now.
    let told = sym c.planned.ensures.reads.told ∙ now in
    let plan = some_has _ _ _ c.in-Some.is c.in_ok-batches.ensures.plan image told in
    let value = c.deref-in-Some.ensures.value in
    record {
      target = c.args.target;
      down = c.args.down;
      chosen = value ∙ plan.chosen;
      enough = subst (λ (ts : List ℕ). defrag_need image c.args.range.start (end_of c.args.range) ≤ length ts) (sym value) plan.enough;
    }

pub returns-in-Some-clause-emptied : goal.returns-in-Some-clause-emptied
returns-in-Some-clause-emptied g c =
    let reads = c.planned.ensures.reads in
    let value = c.deref-in-Some.ensures.value in
    IfOk-weaker c.move_all.result _ _
    (λ r done image told.
    let plan = some_has _ _ _ c.in-Some.is c.in_ok-batches.ensures.plan image told in
    let new = done image (reads.told ∙ told) in
    (new.0, new.1, new.2, new.3 c.args.target c.args.down (value ∙ plan.chosen) (subst (λ (ts : List ℕ). defrag_need image c.args.range.start (end_of c.args.range) ≤ length ts) (sym value) plan.enough)))
    c.move_all.ensures.moved

pub returns-in-Some-clause-idle : goal.returns-in-Some-clause-idle
returns-in-Some-clause-idle g c = λ image told none.
    let plan = some_has _ _ _ c.in-Some.is c.in_ok-batches.ensures.plan image told in
    let inside = subst (λ (x : Layout). IsInside x c.args.range) (own_layout image c.args.m (c.requires.of_image image told)) c.requires.range in
    let zero = no_marks image (c.requires.checked image told) c.args.range.start (end_of c.args.range) inside.above inside.below none in
    let some = plan.some in
    absurd (omega (arith, zero, some))

pub returns-in-Some-clause-any_moment : goal.returns-in-Some-clause-any_moment
returns-in-Some-clause-any_moment g c = λ calm image told.
    let d = c.args.d.now in
    let reads = c.planned.ensures.reads in
    reads_first reads c.planned.ensures.goes.later
    (at_rest (g.D.Disk.state d) image (HasSameFiles image) (g.met.D.Disk.only_now d) (λ x left. g.met.D.Disk.settled d x calm left) told (own_files image (c.requires.checked image told)))
    (c.move_all.ensures.any_moment (reads.pending ∙ calm) image (reads.told ∙ told))

pub returns-in-Some-clause-goes : goal.returns-in-Some-clause-goes
returns-in-Some-clause-goes g c = goes_then c.planned.ensures.goes c.move_all.ensures.goes

pub returns-in-None-clause-emptied : goal.returns-in-None-clause-emptied
returns-in-None-clause-emptied g c = λ image told.
    let of = c.requires.of_image image told in
    let inside = subst (λ (x : Layout). IsInside x c.args.range) (own_layout image c.args.m of) c.requires.range in (
      image,
      c.planned.ensures.reads.told ∙ told,
      subst (IsMountOf image) (sym c.planned.ensures.mount) of,
      way_none image (c.requires.checked image told) (whole_blocks (g.met.D.Disk.whole c.args.d.now image told)) c.args.range.start (end_of c.args.range) c.args.target c.args.down inside.above inside.below (c.in_ok-batches.ensures.none c.in-None.is image told),
    )

pub returns-in-None-clause-any_moment : goal.returns-in-None-clause-any_moment
returns-in-None-clause-any_moment g c = λ calm image told.
    let d = c.args.d.now in
    reads_rest c.planned.ensures.reads (at_rest (g.D.Disk.state d) image (HasSameFiles image) (g.met.D.Disk.only_now d) (λ x left. g.met.D.Disk.settled d x calm left) told (own_files image (c.requires.checked image told)))

pub move_all-requires-clause-of_image : goal.move_all-requires-clause-of_image
move_all-requires-clause-of_image g c = λ image now.
    subst (IsMountOf image) (sym c.planned.ensures.mount) (c.requires.of_image image (sym c.planned.ensures.reads.told ∙ now))
