-- What is collected of the parts of rule 10, as their defects.
use Rattle.std.proofs.Common.{◌≡◌, ℕ, [], sym, ap, subst}
use Rattle.std.specs.Prelude.{flat_map}
use Rattle.f2_bytes.specs.Bytes.{Image, numbers_below}
use Rattle.f2_bytes.specs.Check.{nids, defects_at, part_defects}
use Rattle.f2_defects.specs.Collected.{Collection, Collects}
use Rattle.f2_items.specs.Directories.{defects_before}
use Rattle.f2_items.specs.ItemComparisons.{Finds}
use Rattle.f2_survey.specs.Parts.{part_in, first_parts}
use Rattle.f2_items.specs.Visits.{found_below}

module _ (image : Image) where
  -- before the first part
  pub no_parts : (rule : ℕ) (c : Collection) → Collects c [] → Collects c (first_parts image rule 0)
  unfolding numbers_below
  no_parts rule c none = none

  whole : (part : ℕ) → (part_in image 10 part).first_limit ≡ nids image → defects_before image (nids image) part ≡ part_defects (part_in image 10 part)
  unfolding defects_before part_defects
  whole part all = ap (λ n. flat_map (defects_at (part_in image 10 part)) (numbers_below n)) (sym all)

  pub found : (part : ℕ) (c : Collection) → (part_in image 10 part).first_limit ≡ nids image → Finds part (defects_before image (nids image) part) c → Collects c (part_defects (part_in image 10 part))
  found part c all finds = subst (Collects c) (whole part all) finds.collects

  -- what is found of all files is found by a part of rule 9
  pub found_of_files : (part : ℕ) → (part_in image 9 part).first_limit ≡ nids image → found_below image 9 part (nids image) ≡ part_defects (part_in image 9 part)
  unfolding part_defects
  found_of_files part all = ap (λ n. flat_map (defects_at (part_in image 9 part)) (numbers_below n)) (sym all)
