use Rattle.std.proofs.Common.{◌≡◌, ◌≤◌, All, length, true, ⊎_elim, sym, ap, subst, ◌∙◌, arith}
use Rattle.std.proofs.lemmas.Bool.{eqb-true, eqb-false, cases_lt}
use Rattle.std.proofs.lemmas.List.{nil_from_length}
use Rattle.std.proofs.lemmas.List.Elements.{filter_passes}
use Rattle.std.proofs.lemmas.Result.{IfOk-weaker}
use Rattle.f2_bytes.specs.Check.{is_marked}
use Rattle.f2_commit.specs.Moves.{HasSameFiles}
use Rattle.f2_disk.proofs.Runs.{reads_first, at_rest, goes_then}
use Rattle.f2_commit.specs.Moves.{AreTargets}
use Rattle.f2_view.specs.Mounted.{layout_in, IsMountOf}
use Rattle.f2_view.proofs.TableReadings.{own_layout}
use Rattle.f2_reloc.specs.Emptying.{part_of}
use Rattle.f2_reloc.proofs.Rests.{own_files, reads_rest}
use Rattle.f2_reloc.proofs.Steps.{ok_both, stepped_idle, stepped_done}
use Rattle.f2_reloc.proofs.moving.move_batch.Goals as goal
use Rattle.f2_reloc.proofs.moving.move_batch.Goals.{then-is_empty-via-then-is_empty, then-is_empty-via-else-is_empty+then-len-gt-MOST}

pub returns-in_err-addresses-clause-any_moment : goal.returns-in_err-addresses-clause-any_moment
returns-in_err-addresses-clause-any_moment g c = λ calm image told.
    let d = c.args.d.now in
    reads_rest c.valid_in.ensures.reads (at_rest (g.D.Disk.state d) image (HasSameFiles image) (g.met.D.Disk.only_now d) (λ x left. g.met.D.Disk.settled d x calm left) told (own_files image (c.requires.ready image told).checked))

pub returns-then-is_empty-clause-moved : goal.returns-then-is_empty-clause-moved
returns-then-is_empty-clause-moved g c = λ image told.
    let read = c.valid_in.ensures in
    let of = c.requires.of_image image told in
    let says = c.in_ok-addresses.ensures.valid image told of in
    let few = (c.requires.ready image told).few in
    let long = c.in_ok-addresses.addresses.ok.0 in
    let same = ap length says in (
      image,
      read.reads.told ∙ told,
      subst (IsMountOf image) (sym read.mount) of,
      stepped_idle image (part_of (layout_in c.args.m) c.args.range c.args.batch) c.args.targets.now
          (sym says ∙ nil_from_length c.in_ok-addresses.addresses.items
          (elim c.then-is_empty.branch [
            | then-is_empty-via-then-is_empty w ↦ let e = eqb-true c.in_ok-addresses.addresses.len 0 (sym c.is_empty.ensures ∙ w.if-is_empty.true) in omega (arith, long, e)
            | then-is_empty-via-else-is_empty+then-len-gt-MOST w ↦ let over = w.if-len-gt-MOST.true in absurd (omega (arith, long, same, few, over))
          ])),
    )

pub returns-then-is_empty-clause-any_moment : goal.returns-then-is_empty-clause-any_moment
returns-then-is_empty-clause-any_moment g c = λ calm image told.
    let d = c.args.d.now in
    reads_rest c.valid_in.ensures.reads (at_rest (g.D.Disk.state d) image (HasSameFiles image) (g.met.D.Disk.only_now d) (λ x left. g.met.D.Disk.settled d x calm left) told (own_files image (c.requires.ready image told).checked))

pub move_valid-requires-clause-of_image : goal.move_valid-requires-clause-of_image
move_valid-requires-clause-of_image g c = λ image told. subst (IsMountOf image) (sym c.valid_in.ensures.mount) (c.requires.of_image image (sym c.valid_in.ensures.reads.told ∙ told))

pub move_valid-requires-clause-valid : goal.move_valid-requires-clause-valid
move_valid-requires-clause-valid g c = λ image told.
    let was = sym c.valid_in.ensures.reads.told ∙ told in
    let says = c.deref.ensures.value ∙ c.in_ok-addresses.ensures.valid image was (c.requires.of_image image was) in
    subst (All (λ a. is_marked image a ≡ true)) (sym says) (filter_passes (is_marked image) (part_of (layout_in c.args.m) c.args.range c.args.batch))

pub move_valid-requires-clause-targets : goal.move_valid-requires-clause-targets
move_valid-requires-clause-targets g c = λ image told.
    let was = sym c.valid_in.ensures.reads.told ∙ told in
    let says = c.deref.ensures.value ∙ c.in_ok-addresses.ensures.valid image was (c.requires.of_image image was) in
    subst (λ xs. AreTargets image xs c.args.targets.now) (sym says) (c.requires.ready image was).serve

pub returns-clause-moved : goal.returns-clause-moved
returns-clause-moved g c =
    let long = c.in_ok-addresses.addresses.ok.0 in
    let is = ap length c.deref.ensures.value in
    let none = eqb-false c.in_ok-addresses.addresses.len 0 (sym c.is_empty.ensures ∙ c.if-is_empty.false) in
    let some : 1 ≤ length c.deref.result.now
    = ⊎_elim (λ more. omega (arith, more, long, is)) (λ empty. absurd (none (omega (arith, empty)))) (cases_lt 0 c.in_ok-addresses.addresses.len) in
    IfOk-weaker c.move_valid.result _ _
    (λ r done image told.
    let reads = c.valid_in.ensures.reads in
    let of = c.requires.of_image image told in
    let says = c.deref.ensures.value ∙ c.in_ok-addresses.ensures.valid image told of in
    let new = done.0 image (reads.told ∙ told) in (
      new.0,
      new.1,
      new.2,
      stepped_done image (part_of (layout_in c.args.m) c.args.range c.args.batch) c.args.targets.now c.deref.result.now says r.1 new.0 some new.3 new.4 new.5
          (sym (own_layout new.0 r.0 new.2) ∙ done.1 ∙ ap layout_in c.valid_in.ensures.mount ∙ own_layout image c.args.m of),
    ))
    (ok_both c.move_valid.result _ _ c.move_valid.ensures.moved c.move_valid.ensures.layout)

pub returns-clause-any_moment : goal.returns-clause-any_moment
returns-clause-any_moment g c = λ calm image told.
    let d = c.args.d.now in
    let reads = c.valid_in.ensures.reads in
    reads_first reads c.valid_in.ensures.goes.later
    (at_rest (g.D.Disk.state d) image (HasSameFiles image) (g.met.D.Disk.only_now d) (λ x left. g.met.D.Disk.settled d x calm left) told (own_files image (c.requires.ready image told).checked))
    (c.move_valid.ensures.any_moment (reads.pending ∙ calm) image (reads.told ∙ told))

pub returns-clause-goes : goal.returns-clause-goes
returns-clause-goes g c = goes_then c.valid_in.ensures.goes c.move_valid.ensures.goes
