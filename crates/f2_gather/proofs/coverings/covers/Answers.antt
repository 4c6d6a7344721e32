use Rattle.std.proofs.Common.{◌≡◌, ◌+◌, true, false, nat_lt, rules, ap, ◌∙◌, arith}
use Rattle.std.specs.List.{list_any}
use Rattle.std.specs.List.Sorted.{IsStrictlyIncreasing, IsPartitionPoint}
use Rattle.std.proofs.lemmas.List.Sorted.{IsPartitionPoint-from_clause, IsPartitionedBy-ltb}
use Rattle.f2_bytes.specs.Defragment.{is_covered, regular_extent}
use Rattle.f2_gather.specs.declared.gathering.MovedBlock.{MovedBlock}
use Rattle.f2_gather.specs.Gathering.{addresses_of}
use Rattle.f2_gather.proofs.Extents.{rises_by, covered_none, covered_first, extent_is, uncovered}
use Rattle.f2_gather.proofs.coverings.covers.Goals as goal
use Rattle.f2_gather.proofs.coverings.covers.Goals.{After-partition_point-at}

pub returns-then-inode_field-ne8 : goal.returns-then-inode_field-ne8
returns-then-inode_field-ne8 c = λ rises. uncovered c.args.inode.now c.inode_field.result (addresses_of c.args.blocks.now) c.inode_field.ensures.value c.if-inode_field-ne8.true

-- the first block that does not lie before the extent
point : (c : After-partition_point-at) → IsStrictlyIncreasing (addresses_of c.args.blocks.now)
    → IsPartitionPoint (λ (b : MovedBlock). nat_lt b.address c.inode_field-start.result ≡ true) (λ (b : MovedBlock). nat_lt b.address c.inode_field-start.result ≡ false) c.args.blocks.now c.partition_point-at.result
point c rises =
    IsPartitionPoint-from_clause (λ (b : MovedBlock). nat_lt b.address c.inode_field-start.result) c.args.blocks.now c.partition_point-at.result c.partition_point-at.ensures.partitioned
    (IsPartitionedBy-ltb (λ (b : MovedBlock). b.address) c.args.blocks.now c.inode_field-start.result (rises_by (λ (b : MovedBlock). b.address) c.args.blocks.now rises))
    (λ a r q k. search rules)

extent : (c : After-partition_point-at) → (c.inode_field-start.result, c.inode_field-2.result) ≡ regular_extent c.args.inode.now
extent c =
    extent_is c.args.inode.now c.inode_field.result c.inode_field-start.result c.inode_field-2.result c.inode_field.ensures.value c.if-inode_field-ne8.false
    c.inode_field-start.ensures.value c.inode_field-2.ensures.value

pub returns-then-at-blocks : goal.returns-then-at-blocks
returns-then-at-blocks c = λ rises.
    ap (λ n. nat_lt n (c.inode_field-start.result + c.inode_field-2.result)) c.from.ensures
    ∙ covered_first (λ (b : MovedBlock). b.address) c.inode_field-start.result c.inode_field-2.result c.args.blocks.now c.partition_point-at.result (point c.before.before rises)
    (rises_by (λ (b : MovedBlock). b.address) c.args.blocks.now rises) c.if-at-blocks.true _
    ∙ ap (λ e. list_any (is_covered e) (addresses_of c.args.blocks.now)) (extent c.before.before)

pub returns-else-at-blocks : goal.returns-else-at-blocks
returns-else-at-blocks c = λ rises.
    let past = c.if-at-blocks.false in
    covered_none (λ (b : MovedBlock). b.address) c.inode_field-start.result c.inode_field-2.result c.args.blocks.now c.partition_point-at.result (point c.before rises) (omega (arith, past))
    ∙ ap (λ e. list_any (is_covered e) (addresses_of c.args.blocks.now)) (extent c.before)
