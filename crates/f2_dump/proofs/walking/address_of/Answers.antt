use Rattle.std.proofs.Common.{◌∙◌, subst, sym}
use Rattle.f2_dump.proofs.FileParts.{SlotFits, slot_fits, slot_found, slot_none}
use Rattle.f2_dump.proofs.walking.address_of.Goals as goal

pub slot_word-requires-clause-inode : goal.slot_word-requires-clause-inode
slot_word-requires-clause-inode g c = λ first.
    let fits = subst SlotFits (sym c.in-Some.ensures) (slot_fits c.args.k c.args.file.now.addresses c.requires.addresses) in
    fits.0 (sym c.in_ok-reach-in-Some.ensures.offset ∙ first)

pub slot_word-requires-clause-slot : goal.slot_word-requires-clause-slot
slot_word-requires-clause-slot g c =
    let fits = subst SlotFits (sym c.in-Some.ensures) (slot_fits c.args.k c.args.file.now.addresses c.requires.addresses) in
    fits.1

pub returns-in_ok-reach-in-Some-clause-address : goal.returns-in_ok-reach-in-Some-clause-address
returns-in_ok-reach-in-Some-clause-address g c = λ image told of file reached.
    let there = c.in_ok-reach-in-Some.ensures in
    slot_found image c.args.file.now c.args.k c.in-Some.spot.offset c.in-Some.spot.slot c.slot_word.result c.reach.new.at file c.in-Some.ensures (there.node image told of reached) there.offset c.slot_word.ensures

pub returns-in-None-clause-address : goal.returns-in-None-clause-address
returns-in-None-clause-address g c = λ image told of file reached.
    slot_none image c.args.file.now c.args.k file c.in-None.ensures
