-- Which directory names which file: how many names each file has, and the least directory that names it.
use Rattle.std.specs.Prelude.{◌≡◌, ℕ, ◌<◌, Bool, ◌==◌, List, slice_index, length, find, count_by, Option, Some, option_map}
use Rattle.f2_items.specs.declared.name_counts.Tallies.{Tallies}

-- a name: the directory that has it, and the file that it names
abbrev pub Naming : Type 0
Naming = ℕ × ℕ

abbrev pub is_for : ℕ → Naming → Bool
is_for target n = n.1 == target

-- how many of these names a file has, and the directory of the first one
abbrev pub names_of : ℕ → List Naming → ℕ
names_of target namings = count_by (is_for target) namings

abbrev pub first_parent : ℕ → List Naming → Option ℕ
first_parent target namings = option_map (λ n. n.0) (find (is_for target) namings)

-- these names were counted, for each file with a number below the limit
pub record IsTally (limit : ℕ) (namings : List Naming) (t : Tallies) : Type 0 where
  pub counts_length : length t.counts.items ≡ limit
  pub parents_length : length t.parents.items ≡ limit
  pub counts : (k : ℕ) → k < limit → slice_index t.counts.items k ≡ names_of k namings
  pub parents : (k parent : ℕ) → k < limit → first_parent k namings ≡ Some parent → slice_index t.parents.items k ≡ parent
