use Rattle.std.proofs.Common.{◌≤◌, ◌+◌, length, arith, rules}
use Rattle.f2_bytes.specs.Fields.{row_at}
use Rattle.f2_bytes.specs.Superblock.{superblock_rows}
use Rattle.f2_bytes.proofs.CopyFacts.{superblock_row}
use Rattle.f2_super.proofs.making.set_row.Goals as goal

pub set-requires : goal.set-requires
set-requires c =
    let fits = superblock_row c.args.k c.requires.row in
    let row = row_at superblock_rows c.args.k in
    let inside : row.offset + row.width ≤ length c.args.c.now = omega (arith, fits.inside, c.requires.size) in
    let narrow = fits.narrow in
    search rules
