use Rattle.std.proofs.Common.{◌≤◌, ◌+◌, length, arith, rules}
use Rattle.f2_bytes.specs.Fields.{row_at}
use Rattle.f2_bytes.specs.Checkpoint.{checkpoint_rows}
use Rattle.f2_pack.proofs.Rows.{checkpoint_row-inside}
use Rattle.f2_change.proofs.heads.set_row.Goals as goal

pub set-requires : goal.set-requires
set-requires c =
    let fits = checkpoint_row-inside c.args.k (omega (arith, c.requires.row)) in
    let row = row_at checkpoint_rows c.args.k in
    let inside : row.offset + row.width ≤ length c.args.b.now = omega (arith, fits.inside, c.requires.size) in
    let narrow = fits.narrow in
    search rules
