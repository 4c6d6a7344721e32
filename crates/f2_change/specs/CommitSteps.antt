-- The steps of a commit, and what a crash in one of them leaves.
use Rattle.std.specs.Prelude.{◌≡◌, ◌⊎◌, ℕ, ◌≤◌, ◌==◌, List, length, Some, IsFalse}
use Rattle.std.specs.List.{list_any}
use Rattle.f2_bytes.specs.Bytes.{Block, Image, block_at}
use Rattle.f2_disk.specs.Disk.{State, Lands}
use Rattle.f2_disk.specs.Memory.{zero_block}
use Rattle.f2_pack.specs.Written.{written}
use Rattle.f2_change.specs.Writes.{Prepared, head_address, clearing, filling, with_writes}

-- another image is this one but for blocks at the addresses of these
pub record SameBut (blocks : List (ℕ × Block)) (image other : Image) : Type 0 where
  pub size : length other ≡ length image
  pub others : (address : ℕ) → IsFalse (list_any (λ w. w.0 == address) blocks) → block_at other address ≡ block_at image address

-- calls that write to no other block
pub record WritesOnly (blocks : List (ℕ × Block)) (old new : State) : Type 0 where
  pub told : (image : Image) → old.told ≡ Some image → (now : Image) × (new.told ≡ Some now) × SameBut blocks image now
  pub crash : (c : Image) → new.may_leave c → (d : Image) × old.may_leave d × SameBut blocks d c
  pub since : (t : ℕ) (c : Image) → t ≤ old.moment → new.left_since t c → old.left_since t c ⊎ ((d : Image) × old.may_leave d × SameBut blocks d c)

-- the image once the old head is cleared, and once all but the new head is written
abbrev pub cleared : Prepared → Image → Image
cleared r image = with_writes image (clearing r)

abbrev pub filled : Prepared → Image → Image
filled r image = with_writes (cleared r image) (filling r)

-- What a crash in the writes of a commit leaves, or a fault: the old head cleared or not, or torn; then blocks of the
-- second step in any state; then all of these, and the new head written or not, or torn.
abbrev pub IsBetween : Image → Prepared → Image → Type 0
IsBetween image r left =
    Lands (head_address r) zero_block image left
    ⊎ (SameBut (filling r) (cleared r image) left ⊎ Lands (head_address r) (written r.pack 0) (filled r image) left)
