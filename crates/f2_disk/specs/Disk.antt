-- What the calls of a disk do to its blocks, and what a crash may leave of them.
use Rattle.std.specs.Prelude.{◌≡◌, ◌⊎◌, ℕ, ◌+◌, ◌-◌, ◌^◌, ◌≤◌, ◌<◌, min, Bool, true, length, slice_set, Option, Some, is_some, false}
use Rattle.f2_bytes.specs.Bytes.{Block, Image, IsBlock, block_at}
use Rattle.f2_bytes.specs.Checksum.{is_sealed}
use Rattle.f2_bytes.specs.Superblock.{passes}

-- Bytes that a write may leave which was cut short: no reader takes them for whole. That a real device leaves nothing
-- else is a premise of what is said of crashes.
pub record IsTorn (b : Block) : Type 0 where
  pub block : IsBlock b
  pub unsealed : is_sealed b ≡ false
  pub fails : passes b ≡ false

-- a write of these bytes to a block was done, not done, or left the block torn
abbrev pub Lands : ℕ → Block → Image → Image → Type 0
Lands at bytes old new = (new ≡ old) ⊎ ((new ≡ slice_set old at bytes) ⊎ ((torn : Block) × IsTorn torn × (new ≡ slice_set old at torn)))

-- an image of a disk: so many blocks, each of 4096 bytes
pub record IsImage (blocks : ℕ) (image : Image) : Type 0 where
  pub size : length image ≡ blocks
  pub each : (n : ℕ) → n < blocks → IsBlock (block_at image n)

-- What a disk means at one moment.
pub record State : Type 1 where
  -- its length in blocks
  pub size : ℕ
  -- its blocks as read, where it tells them
  pub told : Option Image
  -- whether a write is pending: one that a crash may still undo or tear
  pub pending : Bool
  -- whether it tells what a crash may leave
  pub tells_left : Bool
  -- the images that a crash at this moment may leave
  pub may_leave : Image → Type 0
  -- a clock, and the images that a crash at some moment from that one on may have left
  pub moment : ℕ
  pub left_since : ℕ → Image → Type 0
  -- how many calls failed, and how often a write was called
  pub faults : ℕ
  pub writes : ℕ

-- a count that is said to rise stands still at its type's end
abbrev pub Rose : ℕ → ℕ → Type 0
Rose before now = min (before + 1) (2 ^ 64 - 1) ≤ now

-- what each call of a disk keeps
pub record Goes (old new : State) : Type 0 where
  pub size : new.size ≡ old.size
  pub tells : is_some new.told ≡ is_some old.told
  pub tells_left : new.tells_left ≡ old.tells_left
  pub faults : old.faults ≤ new.faults
  pub writes : old.writes ≤ new.writes
  pub later : old.moment ≤ new.moment
  -- what a crash may have left stays so
  pub keeps : (t : ℕ) (c : Image) → t ≤ old.moment → old.left_since t c → new.left_since t c

-- a call that writes nothing: blocks, what is pending and what a crash may leave are as before
pub record Reads (old new : State) : Type 0 where
  pub writes : new.writes ≡ old.writes
  pub told : new.told ≡ old.told
  pub pending : new.pending ≡ old.pending
  pub crash : (c : Image) → new.may_leave c → old.may_leave c
  pub leaves : (c : Image) → old.may_leave c → new.may_leave c
  pub since : (t : ℕ) (c : Image) → t ≤ old.moment → new.left_since t c → old.left_since t c

-- a call that may write these bytes to a block, and nothing else
pub record Writes (at : ℕ) (bytes : Block) (old new : State) : Type 0 where
  pub counted : Rose old.writes new.writes
  pub lands : (image : Image) → old.told ≡ Some image → (now : Image) × (new.told ≡ Some now) × Lands at bytes image now
  pub crash : (c : Image) → new.may_leave c → (d : Image) × old.may_leave d × Lands at bytes d c
  pub since : (t : ℕ) (c : Image) → t ≤ old.moment → new.left_since t c → old.left_since t c ⊎ new.may_leave c

-- and that did: the block has the bytes, and until a sync a crash may leave the write done, not done, or torn
pub record Wrote (at : ℕ) (bytes : Block) (old new : State) : Type 0 where
  pub told : (image : Image) → old.told ≡ Some image → new.told ≡ Some (slice_set image at bytes)
  pub pending : new.pending ≡ true
  pub leaves : (d c : Image) → old.may_leave d → Lands at bytes d c → new.may_leave c

-- a call that may end what is pending
pub record Syncs (old new : State) : Type 0 where
  pub writes : new.writes ≡ old.writes
  pub told : new.told ≡ old.told
  pub crash : (c : Image) → new.may_leave c → old.may_leave c
  pub since : (t : ℕ) (c : Image) → t ≤ old.moment → new.left_since t c → old.left_since t c

-- A crash at any moment since old leaves an image that has P.
pub record LeavesOnly (old new : State) (P : Image → Type 0) : Type 0 where
  pub each : (c : Image) → new.left_since old.moment c → P c
  -- for a run that began earlier
  pub before : (t : ℕ) (c : Image) → t ≤ old.moment → new.left_since t c → old.left_since t c ⊎ P c
