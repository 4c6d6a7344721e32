-- The parts of rule 1, which compares the superblock copies.
use Rattle.std.proofs.Common.{◌≡◌, ℕ, ◌+◌, ◌++◌, refl, ap}
use Rattle.std.proofs.lemmas.List.{append-nil}
use Rattle.f2_bytes.specs.Bytes.{Image, block_at, numbers_below}
use Rattle.f2_bytes.specs.Superblock.{copy_of, copy_row, passes, is_compared_row}
use Rattle.f2_bytes.specs.Check.{defects_at, part_defects, superblock_parts, same, digit, where_true}
use Rattle.f2_defects.specs.Collected.{Collection, Collects, Compares, defects_of}
use Rattle.f2_survey.specs.Parts.{part_in, defects_below}
use Rattle.f2_survey.proofs.PartDefects.{compared_one}

-- whether each copy passes
pub passing_parts : (image : Image) → part_defects (part_in image 1 1)
    ≡ defects_of 1 0 0 (same (digit (passes (block_at image 0))) 1) ++ defects_of 1 1 0 (same (digit (passes (block_at image 1))) 1)
unfolding superblock_parts part_defects defects_at numbers_below
passing_parts image = ap (λ l. defects_of 1 0 0 (same (digit (passes (block_at image 0))) 1) ++ l) (append-nil (defects_of 1 1 0 (same (digit (passes (block_at image 1))) 1)))

-- one row more
pub row_more : (image : Image) (old new : Collection) (row : ℕ) → old.part ≡ 2 → Collects old (defects_below (part_in image 1 2) row)
    → Compares old new row 0 (where_true (is_compared_row row) (same (copy_row (copy_of (block_at image 1)) row) (copy_row (copy_of (block_at image 0)) row)))
    → Collects new (defects_below (part_in image 1 2) (row + 1))
unfolding superblock_parts
row_more image old new row part before compares = compared_one (part_in image 1 2) old new row refl part before compares

pub rows_all : (image : Image) → defects_below (part_in image 1 2) 33 ≡ part_defects (part_in image 1 2)
unfolding superblock_parts part_defects
rows_all image = refl
