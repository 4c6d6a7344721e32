use Rattle.std.proofs.Common.{◌∙◌, ◌+◌, nat_le, nat_lt}
use Rattle.f2_bytes.specs.Bytes.{word}
use Rattle.f2_bytes.specs.Node.{has_slots, address_count}
use Rattle.f2_gather.specs.Gathering.{addresses_of}
use Rattle.f2_commit.specs.Shifting.{placed_data}
use Rattle.f2_commit.proofs.MovedWords.{slots_moved, slots_kept}
use Rattle.f2_commit.proofs.moved_nodes.move_slots.Goals as goal

pub returns-then-has_slots : goal.returns-then-has_slots
returns-then-has_slots c = λ j low.
    let b = c.args.b.now in
    c.move_words.ensures j low
    ∙ slots_moved (has_slots b) c.addresses.result (address_count b) j (placed_data c.args.l.now c.args.targets.now (addresses_of c.args.moved.now) (word b j)) (word b j) c.if-has_slots.ensures
    c.addresses.ensures.count

pub returns-else-has_slots : goal.returns-else-has_slots
returns-else-has_slots c = λ j low.
    let b = c.args.b.now in
    slots_kept (has_slots b) (nat_le 90 j) (nat_lt j (90 + address_count b)) (placed_data c.args.l.now c.args.targets.now (addresses_of c.args.moved.now) (word b j)) (word b j) c.if-has_slots.ensures
