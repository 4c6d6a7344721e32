use Rattle.std.proofs.Common.{nat_lt, rules, sym, ◌∙◌, arith}
use Rattle.std.proofs.lemmas.List.{length-map}
use Rattle.std.proofs.lemmas.List.Sorted.{IsPartitionPoint-from_clause, IsPartitionedBy-ltb}
use Rattle.f2_gather.specs.declared.gathering.MovedBlock.{MovedBlock}
use Rattle.f2_gather.specs.Gathering.{addresses_of}
use Rattle.f2_gather.proofs.Extents.{rises_by}
use Rattle.f2_commit.proofs.PlacedData.{placed_at, placed_own, place_found, place_none}
use Rattle.f2_commit.proofs.moved_nodes.new_address.Goals as goal
use Rattle.f2_commit.proofs.moved_nodes.new_address.Goals.{else-at-moved-via-then-at-moved+else-moved-at, else-at-moved-via-else-at-moved}

pub returns-then-moved-at : goal.returns-then-moved-at
returns-then-moved-at c =
    let moved = c.args.moved.now in
    let at = c.partition_point-at.result in
    let long = length-map moved (λ (b : MovedBlock). b.address) in
    let low = c.if-at-moved.true in
    c.target_block.ensures.value
    ∙ sym (placed_at c.args.l.now c.args.targets.now (addresses_of moved) c.args.address at
    (place_found (λ (b : MovedBlock). b.address) moved c.args.address at
    (IsPartitionPoint-from_clause (λ (b : MovedBlock). nat_lt b.address c.args.address) moved at c.partition_point-at.ensures.partitioned
    (IsPartitionedBy-ltb (λ (b : MovedBlock). b.address) moved c.args.address (rises_by (λ (b : MovedBlock). b.address) moved c.requires.ascending))
    (λ a r q k. search rules))
    (record { address = 0; nid = 0; version = 0; place = 0 }) c.if-at-moved.true c.if-moved-at.true)
    (omega (arith, long, low)))

pub returns-else-at-moved : goal.returns-else-at-moved
returns-else-at-moved c =
    let moved = c.args.moved.now in
    let at = c.partition_point-at.result in
    let rises = rises_by (λ (b : MovedBlock). b.address) moved c.requires.ascending in
    sym (placed_own c.args.l.now c.args.targets.now (addresses_of moved) c.args.address
    (place_none (λ (b : MovedBlock). b.address) moved c.args.address at
    (IsPartitionPoint-from_clause (λ (b : MovedBlock). nat_lt b.address c.args.address) moved at c.partition_point-at.ensures.partitioned
    (IsPartitionedBy-ltb (λ (b : MovedBlock). b.address) moved c.args.address rises)
    (λ a r q k. search rules))
    (record { address = 0; nid = 0; version = 0; place = 0 }) rises c.partition_point-at.ensures.bound
    (elim c.else-at-moved.branch [
      | else-at-moved-via-then-at-moved+else-moved-at w ↦ λ low. w.if-moved-at.false
      | else-at-moved-via-else-at-moved w ↦ λ low here. let past = w.if-at-moved.false in absurd (omega (arith, past, low))
    ])))
