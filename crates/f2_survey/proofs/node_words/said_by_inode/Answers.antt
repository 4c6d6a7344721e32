use Rattle.std.proofs.Common.{sym, ap, ◌∙◌}
use Rattle.std.specs.Prelude.{option_map}
use Rattle.f2_sum.specs.Records.{nat_entry}
use Rattle.f2_survey.proofs.SaidNodes.{no_inode_said, said_inode, said_other}
use Rattle.f2_survey.proofs.node_words.said_by_inode.Goals as goal

pub returns-then-entry-nid : goal.returns-then-entry-nid
returns-then-entry-nid c = λ image entry said.
    said ∙ said_inode image c.args.nid (nat_entry c.in-Some.entry) (ap (option_map nat_entry) (sym c.in-Some.is) ∙ entry) c.if-entry-nid.true

pub returns-else-entry-nid : goal.returns-else-entry-nid
returns-else-entry-nid c = λ image entry said.
    said_other image c.args.nid (nat_entry c.in-Some.entry) (ap (option_map nat_entry) (sym c.in-Some.is) ∙ entry) c.if-entry-nid.false

pub returns-in-None : goal.returns-in-None
returns-in-None c = λ image entry said. no_inode_said image c.args.nid (ap (option_map nat_entry) (sym c.in-None.is) ∙ entry)
