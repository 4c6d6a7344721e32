-- Laws over the salvage, as statements that contracts cite.
use Rattle.std.specs.Prelude.{◌≡◌, ℕ, ◌<◌, length, is_some, Some, IsTrue}
use Rattle.f2_bytes.specs.Bytes.{Image, IsBlock, block_at}
use Rattle.f2_bytes.specs.Superblock.{super_copy}
use Rattle.f2_bytes.specs.Checkpoint.{has_checkpoint}
use Rattle.f2_bytes.specs.Tree.{tree}
use Rattle.f2_bytes.specs.Check.{is_checked_body}
use Rattle.f2_bytes.specs.Laws.{AgreesOnSupport}
use Rattle.f2_bytes.specs.Salvage.{salvage}

-- all blocks of an image have their bytes
abbrev pub HasBlocks : Image → Type 0
HasBlocks image = (n : ℕ) → n < length image → IsBlock (block_at image n)

-- where all rules but the one on the superblock copies are met, the salvage is the tree
abbrev pub CheckedIsSalvage : Type 0
CheckedIsSalvage = (image : Image) → HasBlocks image → IsTrue (is_checked_body image)
    → salvage image ≡ Some (tree image)

-- another image with the support of this one has its salvage, where a superblock copy passes and a pack counts
abbrev pub SupportKeepsSalvage : Type 0
SupportKeepsSalvage = (image other : Image) → AgreesOnSupport image other → IsTrue (is_some (super_copy image))
    → IsTrue (has_checkpoint image) → salvage other ≡ salvage image
