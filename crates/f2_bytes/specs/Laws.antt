-- Laws over the definitions, as statements that contracts cite.
use Rattle.std.specs.Prelude.{◌≡◌, ℕ, ◌+◌, ◌^◌, ◌<◌, length, IsTrue, IsFalse}
use Rattle.f2_bytes.specs.Bytes.{Image, block_at}
use Rattle.f2_bytes.specs.Superblock.{passes, layout, segment_start}
use Rattle.f2_bytes.specs.Checkpoint.{chosen_pack, checkpoint_ver, head}
use Rattle.f2_bytes.specs.Journal.{is_mountable}
use Rattle.f2_bytes.specs.Tree.{tree}
use Rattle.f2_bytes.specs.Check.{is_checked}
use Rattle.f2_bytes.specs.Support.{is_support, is_free}

-- a checked image can be mounted, unless its version is at the limit
abbrev pub CheckedIsMountable : Type 0
CheckedIsMountable = (image : Image) → IsTrue (is_checked image) → checkpoint_ver (head image) < 2 ^ 62 → IsTrue (is_mountable image)

-- another image has the support of this one: the same copies pass, the same pack counts, and no block of the support differs
pub record AgreesOnSupport (image other : Image) : Type 0 where
  pub length : length other ≡ length image
  pub copies : (n : ℕ) → n < 2 → passes (block_at other n) ≡ passes (block_at image n)
  pub pack : chosen_pack (layout other) other ≡ chosen_pack (layout image) image
  pub blocks : (address : ℕ) → IsTrue (is_support image address) → block_at other address ≡ block_at image address

-- where the one is checked the other is, with the same tree
abbrev pub SupportKeepsTree : Type 0
SupportKeepsTree = (image other : Image) → AgreesOnSupport image other → IsTrue (is_checked image) → IsTrue (is_checked other) × (tree other ≡ tree image)

-- no free segment has a block of the support
abbrev pub FreeHasNoSupport : Type 0
FreeHasNoSupport = (image : Image) (segment k : ℕ) → IsTrue (is_free image segment) → k < 512 → IsFalse (is_support image (segment_start (layout image) segment + k))
