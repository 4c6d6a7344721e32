use Rattle.std.proofs.Common.{Some, None, sym, ap, subst, ◌∙◌}
use Rattle.std.proofs.lemmas.Bool.{cond-true, cond-false}
use Rattle.f2_bytes.specs.Node.{locate, word_in}
use Rattle.f2_node.specs.Records.{spot_of}
use Rattle.f2_view.specs.Mounted.{Mounted, IsMountOf}
use Rattle.f2_view.proofs.TreeReads.{HasPlace, located_place, at_inode, no_inode, no_slots, slot_at}
use Rattle.f2_view.proofs.accessors.Mount.slot.Goals as goal

pub returns-then-not-branch-clause-slot : goal.returns-then-not-branch-clause-slot
returns-then-not-branch-clause-slot g c = λ image told of.
    no_inode image c.args.ino c.args.k (c.in_ok-node.ensures.node image told of ∙ cond-false c.in_ok-node.field-0 _ None c.if-not-branch.true)

pub returns-then-not-has_slots-clause-slot : goal.returns-then-not-has_slots-clause-slot
returns-then-not-has_slots-clause-slot g c = λ image told of.
    no_slots image c.args.ino c.args.k c.node.new.into (c.in_ok-node.ensures.node image told of ∙ cond-true c.in_ok-node.field-0 _ None c.if-not-branch.false) (sym c.has_slots.ensures ∙ c.if-not-has_slots.true)

pub returns-in-None-clause-slot : goal.returns-in-None-clause-slot
returns-in-None-clause-slot g c = λ image told of.
    sym (slot_at image c.args.ino c.args.k c.node.new.into None (c.in_ok-node.ensures.node image told of ∙ cond-true c.in_ok-node.field-0 _ None c.if-not-branch.false) (sym c.has_slots.ensures ∙ c.if-not-has_slots.false)
    (c.in-None.ensures ∙ ap (locate c.args.k) c.addresses.ensures.count))

pub address_at-requires-clause-node : goal.address_at-requires-clause-node
address_at-requires-clause-node g c = (subst (HasPlace 923) (sym c.in-Some.ensures) (located_place c.args.k c.addresses.result c.addresses.ensures.most)).0

pub address_at-requires-clause-inode : goal.address_at-requires-clause-inode
address_at-requires-clause-inode g c = (subst (HasPlace 923) (sym c.in-Some.ensures) (located_place c.args.k c.addresses.result c.addresses.ensures.most)).1

pub returns-then-spot-eq0-clause-slot : goal.returns-then-spot-eq0-clause-slot
returns-then-spot-eq0-clause-slot g c = λ image told of.
    let spot = spot_of c.in-Some.spot in
    let inode = c.in_ok-node.ensures.node image told of ∙ cond-true c.in_ok-node.field-0 _ None c.if-not-branch.false in
    c.address_at.ensures
    ∙ sym (slot_at image c.args.ino c.args.k c.node.new.into (Some spot) inode (sym c.has_slots.ensures ∙ c.if-not-has_slots.false) (c.in-Some.ensures ∙ ap (locate c.args.k) c.addresses.ensures.count)
    ∙ ap (word_in spot) (at_inode image c.args.ino 3 spot.0 c.if-spot-eq0.true ∙ inode))

pub returns-then-not-branch-2-clause-slot : goal.returns-then-not-branch-2-clause-slot
returns-then-not-branch-2-clause-slot g c = λ image told of.
    let spot = spot_of c.in-Some.spot in
    let inode = c.in_ok-node.ensures.node image told of ∙ cond-true c.in_ok-node.field-0 _ None c.if-not-branch.false in
    let there = c.in_ok-file_node.ensures.node image (c.in_ok-node.ensures.reads.told ∙ told) (subst (λ (m : Mounted). IsMountOf image m) (sym c.in_ok-node.ensures.mount) of)
    ∙ cond-false c.in_ok-file_node.field-0 _ None c.if-not-branch-2.true in
    sym (slot_at image c.args.ino c.args.k c.node.new.into (Some spot) inode (sym c.has_slots.ensures ∙ c.if-not-has_slots.false) (c.in-Some.ensures ∙ ap (locate c.args.k) c.addresses.ensures.count)
    ∙ ap (word_in spot) there)

pub address_at-requires-2-clause-node : goal.address_at-requires-2-clause-node
address_at-requires-2-clause-node g c = (subst (HasPlace 923) (sym c.in-Some.ensures) (located_place c.args.k c.addresses.result c.addresses.ensures.most)).0

pub returns-clause-slot : goal.returns-clause-slot
returns-clause-slot g c = λ image told of.
    let spot = spot_of c.in-Some.spot in
    let inode = c.in_ok-node.ensures.node image told of ∙ cond-true c.in_ok-node.field-0 _ None c.if-not-branch.false in
    let there = c.in_ok-file_node.ensures.node image (c.in_ok-node.ensures.reads.told ∙ told) (subst (λ (m : Mounted). IsMountOf image m) (sym c.in_ok-node.ensures.mount) of)
    ∙ cond-true c.in_ok-file_node.field-0 _ None c.if-not-branch-2.false in
    c.address_at-2.ensures
    ∙ sym (slot_at image c.args.ino c.args.k c.node.new.into (Some spot) inode (sym c.has_slots.ensures ∙ c.if-not-has_slots.false) (c.in-Some.ensures ∙ ap (locate c.args.k) c.addresses.ensures.count)
    ∙ ap (word_in spot) there)
