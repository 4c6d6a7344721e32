use Rattle.std.proofs.Common.{◌++◌, List, sym, ap, ◌∙◌}
use Rattle.std.proofs.lemmas.Result.{on_ok_weaker}
use Rattle.f2_survey.specs.Named.{file_names}
use Rattle.f2_survey.specs.declared.nid_slot_names.Name.{Name}
use Rattle.f2_survey.proofs.FileNames.{slotless, all_names}
use Rattle.f2_survey.proofs.NameWalks.{pushes_none}
use Rattle.f2_survey.proofs.nid_slot_names.push_names.Goals as goal

pub returns-then-not-has_slots-clause-names : goal.returns-then-not-has_slots-clause-names
returns-then-not-has_slots-clause-names g c = λ image ino told of known is.
    pushes_none c.args.into.now.items (file_names image ino) (slotless image ino c.args.inode.now is (sym c.has_slots.ensures ∙ c.if-not-has_slots.true))

pub returns-clause-names : goal.returns-clause-names
returns-clause-names g c = on_ok_weaker c.push_nids.result (λ pushed image ino told of known is.
    pushed image told of known
    ∙ ap (λ (l : List Name). c.args.into.now.items ++ l) (sym (all_names image ino c.args.inode.now is (sym c.has_slots.ensures ∙ c.if-not-has_slots.false)))) c.push_nids.ensures.names
