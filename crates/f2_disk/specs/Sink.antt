-- What a sink has taken.
use Rattle.std.specs.Prelude.{◌≡◌, ℕ, ◌≤◌, List, ◌++◌, take, Option, Some, Result, OnOk, OnErr}
use Rattle.f2_disk.specs.Calls.{CallCount}
use Rattle.f2_disk.specs.Disk.{Rose}

-- A put of these bytes: all of them where it was done, else a prefix. The sink told `old` before and tells `new`,
-- and `before` and `now` count its failed puts.
pub record Puts {T E : Type 0} (bytes : List ℕ) (old new : Option (List ℕ)) (before now : ℕ) (result : Result T E) : Type 0 where
  pub done : OnOk result ((had : List ℕ) → old ≡ Some had → new ≡ Some (had ++ bytes))
  pub part : (had : List ℕ) → old ≡ Some had → (n : ℕ) × (new ≡ Some (had ++ take n bytes))
  pub later : before ≤ now
  pub failed : OnErr result (Rose before now)

-- what a sink in memory holds
pub record Gathered : Type 0 where
  pub bytes : List ℕ
  pub calls : CallCount
