-- What a disk means that tells nothing of its blocks.
use Rattle.std.specs.Prelude.{◌≡◌, ℕ, Bool, false, None, Some}
use Rattle.f2_bytes.specs.Bytes.{Image}
use Rattle.f2_disk.specs.Disk.{State}

-- so many blocks, whether a write is pending, and how many calls failed and writes were called
abbrev pub silent : ℕ → Bool → ℕ → ℕ → State
silent blocks pending faults writes = record {
  size = blocks;
  told = None;
  pending = pending;
  tells_left = false;
  may_leave = λ c. ⊥;
  moment = 0;
  left_since = λ t c. ⊥;
  faults = faults;
  writes = writes;
}

pub told_none : {P : Type 0} {image : Image} → None ≡ Some image → P
told_none is = cc
