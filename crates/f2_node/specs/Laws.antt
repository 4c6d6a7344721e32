-- What holds of all inodes and all nodes of a file.
use Rattle.std.specs.Prelude.{◌≡◌, ℕ, zero, suc, ◌<◌, ◌≤◌, Bool, true, false, ◌==◌, ◌||◌, ◌+◌, ◌*◌, Option, Some, None}
use Rattle.f2_bytes.specs.Bytes.{Block}
use Rattle.f2_bytes.specs.Node.{address_count, has_inline_xattr, locate, parent_of, offset_limit}

-- the address words that name blocks end before the five nids, which begin at byte 4052
abbrev pub SlotsBeforeNids : Type 0
SlotsBeforeNids = (b : Block) → 4 * (90 + address_count b) ≤ 4052

-- and before the 200 bytes of attributes, where the inode has these
abbrev pub SlotsBeforeAttributes : Type 0
SlotsBeforeAttributes = (b : Block) → has_inline_xattr b ≡ true → 4 * (90 + address_count b) ≤ 3852

-- the node above passes the test of its offset
abbrev pub passes_above : (ℕ → Bool) → Option (ℕ × ℕ) → Bool
passes_above test None = false
passes_above test (Some spot) = test spot.0

-- at most n steps up lead from the node at this offset to the inode
abbrev pub reaches_inode : ℕ → ℕ → Bool
reaches_inode zero o = o == 0
reaches_inode (suc n) o = o == 0 || passes_above (reaches_inode n) (parent_of o)

-- from each offset in the tree of a file
abbrev pub ReachesInode : Type 0
ReachesInode = (o : ℕ) → o < offset_limit → reaches_inode 3 o ≡ true

-- from the node of each block, in an inode with n address words
abbrev pub LocatedReachesInode : Type 0
LocatedReachesInode = (k n : ℕ) → n ≤ 923 → (spot : ℕ × ℕ) → locate k n ≡ Some spot → (spot.0 < offset_limit) × (reaches_inode 3 spot.0 ≡ true)
