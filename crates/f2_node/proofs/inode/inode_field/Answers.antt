use Rattle.std.proofs.Common.{◌≤◌, ◌+◌, length, arith, rules}
use Rattle.f2_bytes.specs.Fields.{row_at}
use Rattle.f2_bytes.specs.Node.{inode_rows}
use Rattle.f2_node.proofs.Rows.{inode_row-inside}
use Rattle.f2_node.proofs.inode.inode_field.Goals as goal

pub get-requires : goal.get-requires
get-requires c =
    let fits = inode_row-inside c.args.k c.requires in
    let row = row_at inode_rows c.args.k in
    let inside : row.offset + row.width ≤ length c.args.b.now = omega (arith, fits.inside, c.bytes.ensures.block.length) in
    let narrow = fits.narrow in
    search rules
