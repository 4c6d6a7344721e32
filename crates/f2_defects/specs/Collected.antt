-- Defects as they are collected: the first ones, and how many there are.
use Rattle.std.specs.Prelude.{◌≡◌, ℕ, ◌+◌, ◌-◌, ◌^◌, ◌≤◌, List, ◌++◌, []}
use Rattle.std.specs.Prelude.{length, take, filter_map, min, Option}
use Rattle.std.specs.List.{cons_option, range_with_len}
use Rattle.f2_bytes.specs.Check.{Comparison, Defect, defect_of, same}
use Rattle.f2_defects.specs.declared.collector.Defect.{Defect as Listed}

-- the defect that is listed so
abbrev pub defect_in : Listed → Defect
defect_in d = record { part = d.part; a = d.a; b = d.b; found = d.found; wanted = d.wanted }

-- how many defects are listed
abbrev pub most_listed : ℕ
most_listed = 64

-- what is collected of a part: the first defects, and their number
pub record Collection : Type 0 where
  pub part : ℕ
  pub kept : List Defect
  pub count : ℕ

-- what is collected of these defects; numbers end at 64 bits
pub record Collects (c : Collection) (defects : List Defect) : Type 0 where
  pub kept : c.kept ≡ take most_listed defects
  pub count : c.count ≡ min (length defects) (2 ^ 64 - 1)

-- the defects that a comparison gives: one, or none
abbrev pub defects_of : ℕ → ℕ → ℕ → Option Comparison → List Defect
defects_of part a b comparison = cons_option (defect_of part a b comparison) []

-- after this comparison the collection is of those before and of its defect
abbrev pub Compares : Collection → Collection → ℕ → ℕ → Option Comparison → Type 0
Compares old new a b comparison = (defects : List Defect) → Collects old defects → Collects new (defects ++ defects_of old.part a b comparison)

-- these defects are listed after those before, while there is room
abbrev pub Keeps : Collection → Collection → List Defect → Type 0
Keeps old new more = length old.kept ≤ most_listed → new.kept ≡ take most_listed (old.kept ++ more)

-- afterwards the collection is of the defects of both, one after the other
abbrev pub Appends : Collection → Collection → Collection → Type 0
Appends old other new = (defects more : List Defect) → Collects old defects → Collects other more → Collects new (defects ++ more)

-- the comparison at b of one value with the values that go up by one, from this one at `from` on
abbrev pub run_comparison : ℕ → ℕ → ℕ → ℕ → Option Comparison
run_comparison from found wanted b = same found (wanted + b - from)

-- the defects of such comparisons at the n numbers from `from` on
abbrev pub run_defects : ℕ → ℕ → ℕ → ℕ → ℕ → ℕ → List Defect
run_defects part a from n found wanted = filter_map (λ b. defect_of part a b (run_comparison from found wanted b)) (range_with_len from n)

-- after these comparisons the collection is of the defects before and of theirs
abbrev pub Runs : Collection → Collection → ℕ → ℕ → ℕ → ℕ → ℕ → Type 0
Runs old new a from n found wanted = (defects : List Defect) → Collects old defects → Collects new (defects ++ run_defects old.part a from n found wanted)
