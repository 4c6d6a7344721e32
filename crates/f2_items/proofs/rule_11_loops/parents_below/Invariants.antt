use Rattle.std.proofs.Common.{◌≡◌, ℕ, ◌<◌, length, get_or}
use Rattle.f2_bytes.specs.Bytes.{Image}
use Rattle.f2_bytes.specs.Check.{nids, least_parent}
use Rattle.f2_items.specs.EachFile.{HasNames, above}
use Rattle.f2_items.proofs.rule_11_loops.parents_below.Given as goal

-- the numbers so far
abbrev pub invariant-loop-number : goal.invariant-loop-number
invariant-loop-number l = record {
  all : length l.parents.items ≡ l.number;
  low : (k : ℕ) → k < l.number → get_or l.parents.items k 0 < l.limit;
  parents : (image : Image) → HasNames image l.tallies → l.limit ≡ nids image → (k : ℕ) → k < l.number → above (get_or l.parents.items k 0) ≡ least_parent image k;
}
