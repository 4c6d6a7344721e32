use Rattle.std.proofs.Common.{◌≡◌, ◌∙◌, length, ap, subst, sym, arith}
use Rattle.f2_bytes.specs.Checkpoint.{pack_number}
use Rattle.f2_disk.proofs.Runs.{weaker}
use Rattle.f2_change.specs.CommitSteps.{IsBetween}
use Rattle.f2_change.specs.Writes.{Prepared, IsPrepared, OldOrNew, committed}
use Rattle.f2_pack.specs.Held.{chosen_of}
use Rattle.f2_pack.specs.Written.{written}
use Rattle.f2_change.proofs.NewImage.{stands_of, new_copies, new_has_checkpoint, new_chosen}
use Rattle.f2_change.proofs.Outcomes.{old_or_new}
use Rattle.f2_change.proofs.committing.commit.Goals as goal

pub returns-in_err-write_all-clause-either : goal.returns-in_err-write_all-clause-either
returns-in_err-write_all-clause-either g c = λ image told.
    let r = c.args.r in
    let p : IsPrepared r = subst IsPrepared c.r.view_is c.r.invariant.0 in
    let s = stands_of image c.args.m r (c.requires.of_image image told) c.requires.follows (omega (arith, c.requires.lies, (g.met.D.Disk.whole c.args.d.now image told).size)) in
    let now = c.write_all.ensures.either image told in
    (now.0, now.1, old_or_new r p image (pack_number image) s (c.requires.avoids image told) now.0 now.2)

pub returns-in_err-write_all-clause-any_moment : goal.returns-in_err-write_all-clause-any_moment
returns-in_err-write_all-clause-any_moment g c = λ calm image told.
    let r = c.args.r in
    let p : IsPrepared r = subst IsPrepared c.r.view_is c.r.invariant.0 in
    let s = stands_of image c.args.m r (c.requires.of_image image told) c.requires.follows (omega (arith, c.requires.lies, (g.met.D.Disk.whole c.args.d.now image told).size)) in
    weaker (IsBetween image r) (OldOrNew image r) (old_or_new r p image (pack_number image) s (c.requires.avoids image told)) (c.write_all.ensures.any_moment calm image told)

pub returns-clause-renewed : goal.returns-clause-renewed
returns-clause-renewed g c = λ image told.
    let r = c.args.r in
    let p : IsPrepared r = subst IsPrepared c.r.view_is c.r.invariant.0 in
    let s = stands_of image c.args.m r (c.requires.of_image image told) c.requires.follows (omega (arith, c.requires.lies, (g.met.D.Disk.whole c.args.d.now image told).size)) in
    let bytes : length r.pack.head ≡ 4096 = sym (ap (λ (x : Prepared). length x.pack.head) c.r.view_is) ∙ c.check_sizes.ensures.head in
    let six : length r.pack.sums ≡ 6 = sym (ap (λ (x : Prepared). length x.pack.sums) c.r.view_is) ∙ c.check_sizes.ensures.summaries in
    let kept : c.r.inside.chosen ≡ chosen_of (written r.pack) r.pack.pack = c.r.invariant.1.value ∙ ap (λ (x : Prepared). chosen_of (written x.pack) x.pack.pack) c.r.view_is in
    c.renew.ensures.of_image image (committed r image) (c.requires.of_image image told)
    (new_copies r p bytes six image (pack_number image) s) (new_has_checkpoint r p bytes six image (pack_number image) s)
    (kept ∙ new_chosen r p bytes six image (pack_number image) s)

pub returns-clause-either : goal.returns-clause-either
returns-clause-either g c = λ image told.
    let r = c.args.r in
    let p : IsPrepared r = subst IsPrepared c.r.view_is c.r.invariant.0 in
    let s = stands_of image c.args.m r (c.requires.of_image image told) c.requires.follows (omega (arith, c.requires.lies, (g.met.D.Disk.whole c.args.d.now image told).size)) in
    let now = c.write_all.ensures.either image told in
    (now.0, now.1, old_or_new r p image (pack_number image) s (c.requires.avoids image told) now.0 now.2)

pub returns-clause-any_moment : goal.returns-clause-any_moment
returns-clause-any_moment g c = λ calm image told.
    let r = c.args.r in
    let p : IsPrepared r = subst IsPrepared c.r.view_is c.r.invariant.0 in
    let s = stands_of image c.args.m r (c.requires.of_image image told) c.requires.follows (omega (arith, c.requires.lies, (g.met.D.Disk.whole c.args.d.now image told).size)) in
    weaker (IsBetween image r) (OldOrNew image r) (old_or_new r p image (pack_number image) s (c.requires.avoids image told)) (c.write_all.ensures.any_moment calm image told)
