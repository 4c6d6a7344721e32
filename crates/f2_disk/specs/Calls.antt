-- The calls of a fake, numbered from 1, and those that are to fail.
use Rattle.std.specs.Prelude.{ℕ, ◌+◌, ◌-◌, ◌^◌, min, Bool, ◌==◌, if◌then◌else◌, List}
use Rattle.std.specs.List.{list_any}

-- a count that has risen by one, which stands still at its type's end
abbrev pub raised : ℕ → ℕ
raised n = min (n + 1) (2 ^ 64 - 1)

pub record CallCount : Type 0 where
  -- the numbers of the calls that are to fail
  pub fails : List ℕ
  -- how many calls there were
  pub count : ℕ
  -- how many failed
  pub faults : ℕ

-- before the first call
abbrev pub none_yet : List ℕ → CallCount
none_yet fails = record { fails = fails; count = 0; faults = 0 }

-- whether the next call is to fail
abbrev pub fails_next : CallCount → Bool
fails_next c = list_any (λ n. n == raised c.count) c.fails

-- after a call that failed is counted
abbrev pub failed : CallCount → CallCount
failed c = record { fails = c.fails; count = c.count; faults = raised c.faults }

-- after a call began, which fails where its number says so
abbrev pub begun : CallCount → CallCount
begun c = record { fails = c.fails; count = raised c.count; faults = if fails_next c then raised c.faults else c.faults }
