-- What a disk means that never fails.
use Rattle.std.specs.Prelude.{◌≡◌, ℕ, Bool, true, false, Some}
use Rattle.std.proofs.Common.{subst}
use Rattle.f2_bytes.specs.Bytes.{Image}
use Rattle.f2_disk.specs.Disk.{State, IsImage}

-- it tells its blocks, and not what a crash may leave
abbrev pub calm_state : ℕ → Image → Bool → ℕ → State
calm_state size blocks pending writes = record {
  size = size;
  told = Some blocks;
  pending = pending;
  tells_left = false;
  may_leave = λ c. ⊥;
  moment = 0;
  left_since = λ t c. ⊥;
  faults = 0;
  writes = writes;
}

pub whole : (size : ℕ) (blocks image : Image) → IsImage size blocks → Some blocks ≡ Some image → IsImage size image
whole size blocks image is told = let same : blocks ≡ image = cc in subst (IsImage size) same is

pub tells_none : {P : Type 0} → false ≡ true → P
tells_none is = cc
