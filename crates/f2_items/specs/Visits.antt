-- What is found of files while they are visited in the order of their numbers.
use Rattle.std.specs.Prelude.{ℕ, ◌-◌, ◌^◌, min, List, flat_map}
use Rattle.f2_bytes.specs.Bytes.{Image, numbers_below}
use Rattle.f2_bytes.specs.Check.{Defect, defects_at}
use Rattle.f2_survey.specs.Parts.{part_in}

-- the defects of a part of a rule at the first numbers below n
abbrev pub found_below : Image → ℕ → ℕ → ℕ → List Defect
found_below image rule part n = flat_map (defects_at (part_in image rule part)) (numbers_below n)

-- a count that stands still at the end of 64 bits
abbrev pub capped : ℕ → ℕ
capped n = min n (2 ^ 64 - 1)
