-- The parts of rule 2, which says whether an image was left in order.
use Rattle.std.proofs.Common.{◌≡◌, ◌^◌, ℕ, List, length, refl, ap, ◌∙◌}
use Rattle.std.specs.Prelude.{◌==◌, bit_and}
use Rattle.std.specs.List.{list_any}
use Rattle.std.proofs.lemmas.List.{length-map}
use Rattle.f2_bytes.specs.Bytes.{Image, numbers_below, count_below}
use Rattle.f2_bytes.specs.Checkpoint.{head, ckpt_flags, orphans, pack}
use Rattle.f2_bytes.specs.RollForward.{chain, chain_address, chain_length}
use Rattle.f2_bytes.specs.Check.{part_defects, checkpoint_parts, same, single}
use Rattle.f2_survey.specs.Parts.{part_in}
use Rattle.f2_bytes.specs.Checkpoint.{orphan_count}
use Rattle.f2_bytes.proofs.Below.{length-numbers_below}

pub orphan_part : (image : Image) → part_defects (part_in image 2 1) ≡ part_defects (single 1 (same (orphan_count image) 0))
unfolding checkpoint_parts
orphan_part image = refl

pub chain_part : (image : Image) → part_defects (part_in image 2 2) ≡ part_defects (single 2 (same (chain_length image) 0))
unfolding checkpoint_parts
chain_part image = refl

pub flag_part : (image : Image) → part_defects (part_in image 2 3) ≡ part_defects (single 3 (same (bit_and (ckpt_flags (head image)) 0x1018) 0))
unfolding checkpoint_parts
flag_part image = refl

-- the chain has so many nodes
pub length-chain : (image : Image) → length (chain image) ≡ chain_length image
length-chain image = length-map (numbers_below (chain_length image)) (chain_address image) ∙ length-numbers_below (chain_length image)

-- the orphans that are kept are those of the pack, each counted once
pub counts_orphans : (image : Image) (kept : List ℕ) (count : ℕ) → kept ≡ orphans (pack image) → count ≡ count_below (2 ^ 32) (λ number. list_any (λ x. x == number) kept)
    → count ≡ orphan_count image
unfolding orphan_count
counts_orphans image kept count own is = is ∙ ap (λ l. count_below (2 ^ 32) (λ number. list_any (λ x. x == number) l)) own
