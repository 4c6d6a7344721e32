-- The rows of a checkpoint lie in its block.
use Rattle.std.proofs.Common.{ℕ, ◌+◌, ◌≤◌, ◌<◌, refl}
use Rattle.std.specs.Prelude.{nat_le}
use Rattle.std.proofs.lemmas.Bool.{leb-true}
use Rattle.f2_bytes.specs.Fields.{field, row_at, lies_in}
use Rattle.f2_bytes.specs.declared.fields.Field.{Field}
use Rattle.f2_bytes.specs.Checkpoint.{checkpoint_rows}
use Rattle.f2_bytes.proofs.Tables.{row_passes}

-- a row lies in the block, and is a number of at most 8 bytes
pub record IsRow (row : Field) : Type 0 where
  pub inside : row.offset + row.width ≤ 4096
  pub narrow : row.width ≤ 8

pub checkpoint_row-inside : (k : ℕ) → k < 65 → IsRow (row_at checkpoint_rows k)
checkpoint_row-inside k below =
    let row = row_at checkpoint_rows k in
    record {
      inside = leb-true (row.offset + row.width) 4096 (row_passes (lies_in 4096) checkpoint_rows k (field 0 0) below refl);
      narrow = leb-true row.width 8 (row_passes (λ (r : Field). nat_le r.width 8) checkpoint_rows k (field 0 0) below refl);
    }
