-- The superblock of a new image before its checksum.
use Rattle.std.specs.Prelude.{◌≡◌, ◌≢◌, ℕ, ◌+◌, ◌*◌, ◌<◌, List, length, slice_index}
use Rattle.f2_bytes.specs.Bytes.{number_at}
use Rattle.f2_bytes.specs.Superblock.{copy_row}
use Rattle.f2_super.specs.NewCopy.{new_rows}
use Rattle.f2_super.specs.declared.sizes.Geometry.{Geometry}

pub record IsUnsealed (g : Geometry) (features : ℕ) (its_id its_label c : List ℕ) : Type 0 where
  pub size : length c ≡ 3072
  pub rows : (k : ℕ) → k < 32 → k ≢ 27 → k ≢ 28 → copy_row c k ≡ slice_index (new_rows g features) k
  pub id : (i : ℕ) → i < 16 → number_at c (108 + i) 1 ≡ slice_index its_id i
  -- zeros stand behind the label
  pub label : (i : ℕ) → i < 512 → number_at c (124 + 2 * i) 2 ≡ slice_index its_label i
