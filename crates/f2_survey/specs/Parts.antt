-- The parts of the rules by their numbers, and the rules that an image meets.
use Rattle.std.specs.Prelude.{◌≡◌, ℕ, ◌+◌, ◌-◌, ◌≤◌, ◌<◌, List, [], get_or, flat_map, None}
use Rattle.f2_bytes.specs.Bytes.{Image, numbers_below}
use Rattle.f2_bytes.specs.Check.{Part, Defect, single, rules, defects, defects_at, part_defects}

-- part n of a rule, both counted from 1
abbrev pub part_in : Image → ℕ → ℕ → Part
part_in image rule n = get_or (get_or (rules image) (rule - 1) []) (n - 1) (single 0 None)

-- the image meets each rule but the first that comes before this one
abbrev pub MeetsBefore : Image → ℕ → Type 0
MeetsBefore image rule = (r : ℕ) → 2 ≤ r → r < rule → defects image r ≡ []

-- the defects of a part at the first numbers below n, in order
abbrev pub defects_below : Part → ℕ → List Defect
defects_below p n = flat_map (defects_at p) (numbers_below n)

-- the defects of the first n parts of a rule
abbrev pub first_parts : Image → ℕ → ℕ → List Defect
first_parts image rule n = flat_map (λ k. part_defects (part_in image rule (k + 1))) (numbers_below n)

-- the first parts of rule 3 have no defect: all but that each node that is no inode has one name
abbrev pub HasPlaces : Image → Type 0
HasPlaces image = (n : ℕ) → 1 ≤ n → n ≤ 6 → part_defects (part_in image 3 n) ≡ []
