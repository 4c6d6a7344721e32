use Rattle.std.proofs.Common.{◌≤◌, ◌+◌, length, arith, rules}
use Rattle.f2_bytes.specs.Fields.{row_at}
use Rattle.f2_bytes.specs.Superblock.{superblock_rows}
use Rattle.f2_bytes.proofs.CopyFacts.{superblock_row}
use Rattle.f2_super.proofs.copies.Super.field.Goals as goal

pub get-requires : goal.get-requires
get-requires c =
    let fits = superblock_row c.args.k c.requires in
    let row = row_at superblock_rows c.args.k in
    let inside : row.offset + row.width ≤ length c.self.inside.bytes = omega (arith, fits.inside, c.self.told) in
    let narrow = fits.narrow in
    search rules
