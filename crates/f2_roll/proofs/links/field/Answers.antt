use Rattle.std.proofs.Common.{◌≤◌, ◌+◌, length, arith, rules}
use Rattle.f2_bytes.specs.Fields.{row_at}
use Rattle.f2_bytes.specs.Checkpoint.{checkpoint_rows}
use Rattle.f2_roll.proofs.Rows.{checkpoint_row-inside}
use Rattle.f2_roll.proofs.links.field.Goals as goal

pub get-requires : goal.get-requires
get-requires c =
    let fits = checkpoint_row-inside c.args.k c.requires in
    let row = row_at checkpoint_rows c.args.k in
    let inside : row.offset + row.width ≤ length c.args.head.now = omega (arith, fits.inside, c.bytes.ensures.block.length) in
    let narrow = fits.narrow in
    search rules
