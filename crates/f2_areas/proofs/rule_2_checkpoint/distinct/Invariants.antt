use Rattle.std.proofs.Common.{◌≡◌, ◌^◌, ℕ, take}
use Rattle.std.specs.Prelude.{◌==◌}
use Rattle.std.specs.BTreeSet.{btree_set_len, contains}
use Rattle.std.specs.List.{list_any}
use Rattle.std.specs.Ordering.{nat_cmp}
use Rattle.f2_bytes.specs.Bytes.{count_below}
use Rattle.f2_areas.proofs.rule_2_checkpoint.distinct.Given as goal

-- the set has the numbers so far, each once
abbrev pub invariant-loop-number : goal.invariant-loop-number
invariant-loop-number l = record {
  same : (at : ℕ) → contains nat_cmp l.met at ≡ list_any (λ x. x == at) (take l.number-index l.numbers);
  count : btree_set_len l.met ≡ count_below (2 ^ 32) (λ at. list_any (λ x. x == at) (take l.number-index l.numbers));
}
