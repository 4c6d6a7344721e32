use Rattle.std.proofs.Common.{◌≡◌, ◌++◌, [], ◌&&◌, cond, refl, sym, ap, subst, ◌∙◌}
use Rattle.std.proofs.lemmas.Result.{on_ok_weaker}
use Rattle.f2_files.specs.Addresses.{slot_of}
use Rattle.f2_items.specs.Directories.{DirectoriesInside}
use Rattle.f2_files.specs.Kept.{slot_block, blocks_among}
use Rattle.f2_survey.specs.Slots.{slots_below}
use Rattle.f2_items.proofs.GrownLists.{optional}
use Rattle.f2_files.proofs.KeptFiles.{kept-take}
use Rattle.f2_files.proofs.kept_of_files.Kept.take.Goals as goal
use Rattle.f2_files.proofs.kept_of_files.Kept.take.Goals.{then-first, else-first}

pub returns-clause-takes : goal.returns-clause-takes
returns-clause-takes g c = on_ok_weaker c.give_block.result (λ given image slots told of known inside.
    let old = c.args.self.now in
    let ino = c.args.slot.now.ino in
    let s = slot_of c.args.slot.now in
    let gives : c.if-first.gives ≡ (c.in_ok-first.first && old.in_blocks) =
    elim c.if-first.branch as (λ _. c.if-first.gives ≡ (c.in_ok-first.first && old.in_blocks)) [
      | then-first w ↦ w.gives-is ∙ ap (λ b. b && old.in_blocks) (sym w.if-first.true)
      | else-first w ↦ w.gives-is ∙ w.if-first.false ∙ ap (λ b. b && old.in_blocks) (sym w.if-first.false)
    ] in
    kept-take image ino slots s old _ c.in_ok-first.first inside
    (c.in_ok-first.ensures.takes image (slots_below image ino ++ slots) inside.addresses)
    c.in_ok-first.ensures.first c.in_ok-first.ensures.stays
    (c.take-2.ensures image ino slots s inside.usage)
    (c.in_ok-take.ensures image slots inside.extents)
    refl refl
    (λ before. subst (λ b. DirectoriesInside image ino (blocks_among image old.in_blocks slots ++ cond b (optional (slot_block image s)) []) c.give_block.new.directories) gives
    (given image ino (blocks_among image old.in_blocks slots) told of known before))) c.give_block.ensures.gives
