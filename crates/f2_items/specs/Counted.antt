-- How often each number is named.
use Rattle.std.specs.Prelude.{◌≡◌, ℕ, ◌-◌, ◌^◌, ◌≤◌, ◌<◌, ◌==◌, List, length, get_or, min, count_by, sum_by, filter}
use Rattle.f2_bytes.specs.Bytes.{Image, numbers_below}
use Rattle.f2_bytes.specs.Tree.{is_inode}
use Rattle.f2_bytes.specs.Check.{times_named_in}
use Rattle.f2_survey.specs.declared.nid_slot_names.Name.{Name}

-- the list has how often each number below a limit is named, but 0, which is no number of a node; counts end at 64 bits
pub record IsCounted (limit : ℕ) (counts : List ℕ) (times : ℕ → ℕ) : Type 0 where
  pub length : length counts ≡ limit
  pub each : (n : ℕ) → 1 ≤ n → n < limit → get_or counts n 0 ≡ min (times n) (2 ^ 64 - 1)

-- how many of these names are for a number
abbrev pub times_in : List Name → ℕ → ℕ
times_in names n = count_by (λ name. name.nid == n) names

-- how often the files with a number below a limit name a number
abbrev pub times_below : Image → ℕ → ℕ → ℕ
times_below image limit n = sum_by (times_named_in image n) (filter (is_inode image) (numbers_below limit))
