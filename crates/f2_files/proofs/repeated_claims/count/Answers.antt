use Rattle.std.proofs.Common.{◌≡◌, nat_le, nat_lt, rules, arith}
use Rattle.std.specs.Prelude.{count_by}
use Rattle.std.proofs.lemmas.List.Sorted.{IsPartitionPoint-from_clause, IsPartitionedBy-ltb, IsPartitionedBy-leb}
use Rattle.f2_files.proofs.PartitionCounts.{partition-count, count-upto}
use Rattle.f2_files.proofs.repeated_claims.count.Goals as goal

below : (c : goal.After-partition_point-upto) → count_by (λ x. nat_lt x c.args.n) c.args.numbers.now ≡ c.partition_point-below.result
below c =
    partition-count (λ x. nat_lt x c.args.n) c.args.numbers.now c.partition_point-below.result c.partition_point-below.ensures.bound
    (IsPartitionPoint-from_clause (λ x. nat_lt x c.args.n) c.args.numbers.now c.partition_point-below.result c.partition_point-below.ensures.partitioned
    (IsPartitionedBy-ltb (λ x. x) c.args.numbers.now c.args.n c.requires) (λ a r q k. search rules))

upto : (c : goal.After-partition_point-upto) → count_by (λ x. nat_le x c.args.n) c.args.numbers.now ≡ c.partition_point-upto.result
upto c =
    partition-count (λ x. nat_le x c.args.n) c.args.numbers.now c.partition_point-upto.result c.partition_point-upto.ensures.bound
    (IsPartitionPoint-from_clause (λ x. nat_le x c.args.n) c.args.numbers.now c.partition_point-upto.result c.partition_point-upto.ensures.partitioned
    (IsPartitionedBy-leb (λ x. x) c.args.numbers.now c.args.n c.requires) (λ a r q k. search rules))

pub overflow_sub-result : goal.overflow_sub-result
overflow_sub-result c = omega (arith, below c, upto c, count-upto c.args.n c.args.numbers.now)

pub returns : goal.returns
returns c = let b = below c in let u = upto c in let all = count-upto c.args.n c.args.numbers.now in omega (arith, b, u, all)
