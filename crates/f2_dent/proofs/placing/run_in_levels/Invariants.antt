use Rattle.std.proofs.Common.{◌≡◌, ℕ, ◌-◌, None}
use Rattle.std.specs.Prelude.{find}
use Rattle.f2_dent.specs.Places.{block_in, has_place, level_places}
use Rattle.f2_dent.proofs.placing.run_in_levels.Given as goal

abbrev pub invariant-loop-level : goal.invariant-loop-level
invariant-loop-level l = record {
  same : (k : ℕ) → block_in l.pages k ≡ block_in l.initial.pages k;
  none : find (has_place (block_in l.initial.pages)) (level_places l.hash l.slots l.from (l.level - l.from)) ≡ None;
}
