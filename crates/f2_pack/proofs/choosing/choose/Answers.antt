use Rattle.std.proofs.Common.{subst, sym, ◌∙◌}
use Rattle.std.proofs.lemmas.Result.{err_from_is_err_and}
use Rattle.f2_pack.specs.Choice.{OrFails, choice}
use Rattle.f2_pack.proofs.HigherHeads.{refused_choice, found_choice}
use Rattle.f2_pack.proofs.Making.{exactly}
use Rattle.f2_pack.proofs.choosing.choose.Goals as goal

pub returns-in_err-head-clause-exact : goal.returns-in_err-head-clause-exact
returns-in_err-head-clause-exact g c = λ image told.
    let l = c.args.l.now in
    let first = c.in_ok-first.ensures.head image told in
    let second = c.in_ok-second.ensures.head image (c.valid_head.ensures.reads.told ∙ told) in
    let same = err_from_is_err_and c.from_residual-in_err-head.result c.from_residual-in_err-head.ensures.1 in
    rw (same.1, same.2) (exactly _ (choice l image) (refused_choice l image c.in_ok-first.first c.in_ok-second.second first second c.in_err-head.field-0.0 c.in_err-head.ensures))

pub returns-clause-exact : goal.returns-clause-exact
returns-clause-exact g c = λ image told.
    let l = c.args.l.now in
    let first = c.in_ok-first.ensures.head image told in
    let second = c.in_ok-second.ensures.head image (c.valid_head.ensures.reads.told ∙ told) in
    let found = found_choice l image c.in_ok-first.first c.in_ok-second.second first second (c.in_ok-head.head, c.in_ok-head.pack) c.in_ok-head.ensures in
    subst (OrFails c.read_pack.result) (sym found.is_read)
    (c.read_pack.ensures.exact image (c.valid_head-2.ensures.reads.told ∙ c.valid_head.ensures.reads.told ∙ told) found.is_head)
