use Rattle.std.proofs.Common.{◌≡◌, ℕ, ◌-◌, None}
use Rattle.std.specs.Prelude.{find}
use Rattle.f2_dent.specs.Places.{block_in, has_place, places_from}
use Rattle.f2_dent.proofs.placing.run_in_blocks.Given as goal

abbrev pub invariant-loop-block : goal.invariant-loop-block
invariant-loop-block l = record {
  same : (k : ℕ) → block_in l.pages k ≡ block_in l.initial.pages k;
  none : find (has_place (block_in l.initial.pages)) (places_from l.slots l.first (l.block - l.first)) ≡ None;
}
