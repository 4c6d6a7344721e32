use Rattle.std.proofs.Common.{◌∙◌, List, [], ℕ, subst, inl}
use Rattle.f2_top.specs.Ranges.{aim_at}
use Rattle.f2_top.specs.Text.{IsFront}
use Rattle.f2_top.proofs.Alone.{moves_have_lines}
use Rattle.f2_top.proofs.Moving.{left_done, left_short, line_is, none_there, space_short}
use Rattle.f2_top.proofs.moves.empty_checked.Goals as goal

pub returns-in-Ok-clause-lines : goal.returns-in-Ok-clause-lines
returns-in-Ok-clause-lines g c = λ image told' had told.
    let all = c.in-Ok.ensures.emptied image told' in
    let front = c.put_moves.ensures.lines [] had told in (
      front.0,
      subst (λ (l : List ℕ). IsFront [] l c.put_moves.result front.0) (line_is image all.0 (aim_at c.args.range c.args.target c.args.down) c.in-Ok.moved all.2) front.1,
      front.2,
    )

pub returns-in-Ok-clause-image : goal.returns-in-Ok-clause-image
returns-in-Ok-clause-image g c = λ image told fault memory.
    let all = c.in-Ok.ensures.emptied image told in
    (all.0, all.1, left_done image all.0 (aim_at c.args.range c.args.target c.args.down) c.in-Ok.moved all.2)

pub returns-in-Ok-clause-none : goal.returns-in-Ok-clause-none
returns-in-Ok-clause-none g c = λ image told none.
    c.move_range.ensures.idle image told (none_there image (aim_at c.args.range c.args.target c.args.down) (c.requires.checked image told) none)

pub returns-in-Err-NoSpace-clause-exact : goal.returns-in-Err-NoSpace-clause-exact
returns-in-Err-NoSpace-clause-exact g c = λ image told.
    let need = c.in-Err-NoSpace.need in
    let have = c.in-Err-NoSpace.have in
    let are = c.move_range.ensures.no_space need have (cc) image told in
    inl (space_short image (aim_at c.args.range c.args.target c.args.down) need have are.0 are.1 are.2)

pub returns-in-Err-NoSpace-clause-image : goal.returns-in-Err-NoSpace-clause-image
returns-in-Err-NoSpace-clause-image g c = λ image told fault memory.
    let need = c.in-Err-NoSpace.need in
    let have = c.in-Err-NoSpace.have in
    let aim = aim_at c.args.range c.args.target c.args.down in
    let are = c.move_range.ensures.no_space need have (cc) image told in
    (image, (c.move_range.ensures.unwritten need have (cc)).told ∙ told, left_short image aim need have (space_short image aim need have are.0 are.1 are.2))

pub returns-in-Err-DiskFault-clause-none : goal.returns-in-Err-DiskFault-clause-none
returns-in-Err-DiskFault-clause-none g c = λ image told none.
    c.move_range.ensures.idle image told (none_there image (aim_at c.args.range c.args.target c.args.down) (c.requires.checked image told) none)

pub returns-in-Err-NoMemory-clause-none : goal.returns-in-Err-NoMemory-clause-none
returns-in-Err-NoMemory-clause-none g c = λ image told none.
    c.move_range.ensures.idle image told (none_there image (aim_at c.args.range c.args.target c.args.down) (c.requires.checked image told) none)

pub returns-in-Ok-clause-silent : goal.returns-in-Ok-clause-silent
returns-in-Ok-clause-silent g c = λ alone. absurd (moves_have_lines c.put_moves.result c.put_moves.ensures.kind alone)
