-- The superblock of a new image.
use Rattle.std.specs.Prelude.{◌≡◌, ◌≢◌, ℕ, ◌-◌, ◌^◌, ◌<◌, true, if◌then◌else◌, List, [], ◌∷◌, length, slice_index, take, bit_and}
use Rattle.f2_bytes.specs.Bytes.{has_bit}
use Rattle.f2_bytes.specs.Checksum.{crc, magic_number}
use Rattle.f2_bytes.specs.Superblock.{copy_passes, copy_row, feature, layout_of, profile, uuid, volume_name}
use Rattle.f2_super.specs.Geometry.{new_layout}
use Rattle.f2_super.specs.declared.sizes.Geometry.{Geometry}

-- no feature but those that are read
abbrev pub HasProfile : ℕ → Type 0
HasProfile features = bit_and features (2 ^ 32 - 1 - profile) ≡ 0

-- the rows of the copy but for the uuid and the checksum, where 0 stands; the tenth is the place of the checksum
abbrev pub new_rows : Geometry → ℕ → List ℕ
new_rows g features =
    magic_number ∷ 1 ∷ 0 ∷ 9 ∷ 3 ∷ 12 ∷ 9 ∷ 1 ∷ 1 ∷ (if has_bit features 11 then 3068 else 0)
    ∷ g.blocks ∷ g.main ∷ g.segments ∷ 2 ∷ g.sit ∷ g.nat ∷ g.ssa ∷ g.main
    ∷ 512 ∷ 512 ∷ 1536 ∷ (new_layout g).nat ∷ (new_layout g).ssa ∷ (new_layout g).main
    ∷ 3 ∷ 1 ∷ 2 ∷ 0 ∷ 0 ∷ 0 ∷ 0 ∷ features ∷ 0 ∷ []

-- the copy of a new image with these sizes, features, uuid and label
pub record IsNewCopy (g : Geometry) (features : ℕ) (id label : List ℕ) (c : List ℕ) : Type 0 where
  pub size : length c ≡ 3072
  pub passes : copy_passes c ≡ true
  pub rows : (k : ℕ) → k < 32 → k ≢ 27 → k ≢ 28 → copy_row c k ≡ slice_index (new_rows g features) k
  -- with the feature bit 11 the copy ends in its checksum, without it there is none
  pub checksum : copy_row c 32 ≡ (if has_bit features 11 then crc magic_number (take 3068 c) else 0)
  pub layout : layout_of c ≡ new_layout g
  pub features_said : feature c ≡ features
  pub id_said : uuid c ≡ id
  pub label_said : volume_name c ≡ label
