-- What a file means as a disk: its length and its counts. It tells nothing of content.
use Rattle.std.specs.Prelude.{◌≡◌, ℕ, Bool, true, false, None, Some}
use Rattle.f2_bytes.specs.Bytes.{Image}
use Rattle.f2_disk.specs.Disk.{State}

abbrev pub file_state : ℕ → Bool → ℕ → ℕ → State
file_state blocks pending faults writes = record {
  size = blocks;
  told = None;
  pending = pending;
  tells_left = false;
  may_leave = λ c. ⊥;
  moment = 0;
  left_since = λ t c. ⊥;
  faults = faults;
  writes = writes;
}

pub tells_none : {P : Type 0} → false ≡ true → P
tells_none is = cc

pub told_none : {P : Type 0} {image : Image} → None ≡ Some image → P
told_none is = cc
