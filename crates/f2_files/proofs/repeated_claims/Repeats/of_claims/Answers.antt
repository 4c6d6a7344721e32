use Rattle.std.proofs.lemmas.List.Sorted.{IsNonDecreasingBy-from_sort}
use Rattle.f2_files.proofs.RepeatCounts.{claims-count}
use Rattle.f2_files.proofs.repeated_claims.Repeats.of_claims.Goals as goal

pub invariant_of-result : goal.invariant_of-result
invariant_of-result c = record { rises = IsNonDecreasingBy-from_sort (λ x. x) c.sort_unstable.new.self.items c.sort_unstable.ensures.sorted }

pub returns : goal.returns
returns c = λ image has. record {
  addresses = claims-count image c.args.claims c.sort_unstable.new.self.items has c.sort_unstable.ensures.permutation;
  part = c.new.ensures.part;
  defects = c.new.ensures.none;
}
