use Rattle.f2_node.proofs.Rows.{inode_row-inside}
use Rattle.f2_node.proofs.inode.set_inode_field.Goals as goal

pub put_number-requires-clause-inside : goal.put_number-requires-clause-inside
put_number-requires-clause-inside c = (inode_row-inside c.args.k c.requires.row).inside

pub put_number-requires-clause-some : goal.put_number-requires-clause-some
put_number-requires-clause-some c = (inode_row-inside c.args.k c.requires.row).some

pub put_number-requires-clause-narrow : goal.put_number-requires-clause-narrow
put_number-requires-clause-narrow c = (inode_row-inside c.args.k c.requires.row).narrow
