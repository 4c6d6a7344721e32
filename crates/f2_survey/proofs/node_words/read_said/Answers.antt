use Rattle.std.proofs.Common.{Some, None, sym, ap, ◌∙◌}
use Rattle.std.specs.Prelude.{option_map}
use Rattle.std.proofs.lemmas.Bool.{cond-true, cond-false}
use Rattle.f2_sum.specs.Records.{nat_entry}
use Rattle.f2_survey.proofs.SaidNodes.{none_said, said_there}
use Rattle.f2_survey.proofs.node_words.read_said.Goals as goal

pub returns-in-None-clause-said : goal.returns-in-None-clause-said
returns-in-None-clause-said g c = λ image nid told of entry. none_said image nid (ap (option_map nat_entry) (sym c.in-None.is) ∙ entry)

pub returns-then-not-branch-clause-said : goal.returns-then-not-branch-clause-said
returns-then-not-branch-clause-said g c = λ image nid told of entry.
    said_there image nid (nat_entry c.in-Some.entry) (ap (option_map nat_entry) (sym c.in-Some.is) ∙ entry) None
    (c.in_ok-main_block.ensures.block image told of ∙ cond-false c.in_ok-main_block.field-0 (Some c.main_block.new.into) None c.if-not-branch.true)

pub returns-clause-said : goal.returns-clause-said
returns-clause-said g c = λ image nid told of entry.
    ap (λ s. Some s) c.said_in.ensures
    ∙ said_there image nid (nat_entry c.in-Some.entry) (ap (option_map nat_entry) (sym c.in-Some.is) ∙ entry) (Some c.main_block.new.into)
    (c.in_ok-main_block.ensures.block image told of ∙ cond-true c.in_ok-main_block.field-0 (Some c.main_block.new.into) None c.if-not-branch.false)
