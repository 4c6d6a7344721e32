-- What the check of an image answers.
use Rattle.std.specs.Prelude.{◌≡◌, ℕ, length, take, map, Option, Some, None}
use Rattle.f2_bytes.specs.Bytes.{Image}
use Rattle.f2_bytes.specs.Check.{failing_rule, defects}
use Rattle.f2_defects.specs.Collected.{Collection, defect_in, most_listed}
use Rattle.f2_defects.specs.declared.verdict.Verdict.{Verdict}
use Rattle.f2_defects.specs.declared.verdict.Verdict.TheVariants.{Clean, Defects}

-- the image meets every rule, or this one is the least that it fails, with these first defects and so many of them
abbrev pub Says : Image → Option ℕ → Verdict → Type 0
Says image None Clean = Unit {0}
Says image None (Defects rule list count) = ⊥
Says image (Some least) Clean = ⊥
Says image (Some least) (Defects rule list count) =
    (rule ≡ least) × (map defect_in list.items ≡ take most_listed (defects image least)) × (count ≡ length (defects image least))

-- the same for the rules from this one on
abbrev pub IsVerdict : Image → ℕ → Verdict → Type 0
IsVerdict image first verdict = Says image (failing_rule image first) verdict

-- the verdict lists the collected defects, as those by this rule
abbrev pub Lists : ℕ → Collection → Verdict → Type 0
Lists rule c Clean = ⊥
Lists rule c (Defects r list count) = (r ≡ rule) × (map defect_in list.items ≡ c.kept) × (count ≡ c.count)
