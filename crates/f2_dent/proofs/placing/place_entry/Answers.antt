use Rattle.f2_dent.specs.Places.{block_in}
use Rattle.f2_dent.proofs.Firsts.{no_place, slot_within, places_in, full_now}
use Rattle.f2_dent.proofs.placing.place_entry.Goals as goal

pub put_entry-requires : goal.put_entry-requires
put_entry-requires c =
    slot_within c.args.levels c.first_level-from.result (block_in c.args.pages.now) c.args.entry.now c.bytes-name.result.now c.name_hash-hash.result c.slots_of-slots.result c.bytes-name.ensures.same c.name_hash-hash.ensures c.slots_of-slots.ensures c.bytes-name.ensures.name
    c.first_level-from.ensures.lower (block_in c.run_in_levels.new.pages) (block_in c.run_in_levels.new.pages) c.in-Some.block c.in-Some.slot c.in-Some.ensures.first

pub returns-in_ok-put_entry-in-Some-clause-full : goal.returns-in_ok-put_entry-in-Some-clause-full
returns-in_ok-put_entry-in-Some-clause-full c =
    full_now c.args.levels c.first_level-from.result (block_in c.args.pages.now) c.args.entry.now c.bytes-name.result.now c.name_hash-hash.result c.slots_of-slots.result c.bytes-name.ensures.same c.name_hash-hash.ensures c.slots_of-slots.ensures c.bytes-name.ensures.name
    c.first_level-from.ensures.lower (block_in c.run_in_levels.new.pages) (block_in c.put_entry.new.pages) c.in-Some.block c.in-Some.slot c.in-Some.ensures.first
    c.run_in_levels.ensures.same c.in_ok-put_entry-in-Some.ensures c.first_level-from.new.full c.first_level-from.ensures.full

pub returns-in_ok-put_entry-in-Some-clause-places : goal.returns-in_ok-put_entry-in-Some-clause-places
returns-in_ok-put_entry-in-Some-clause-places c =
    places_in c.args.levels c.first_level-from.result (block_in c.args.pages.now) c.args.entry.now c.bytes-name.result.now c.name_hash-hash.result c.slots_of-slots.result c.bytes-name.ensures.same c.name_hash-hash.ensures c.slots_of-slots.ensures c.bytes-name.ensures.name
    c.first_level-from.ensures.lower (block_in c.run_in_levels.new.pages) (block_in c.put_entry.new.pages) c.in-Some.block c.in-Some.slot c.in-Some.ensures.first
    c.run_in_levels.ensures.same c.in_ok-put_entry-in-Some.ensures

pub returns-in-None-clause-places : goal.returns-in-None-clause-places
returns-in-None-clause-places c = no_place c.args.levels c.first_level-from.result (block_in c.args.pages.now) c.args.entry.now c.bytes-name.result.now c.name_hash-hash.result c.slots_of-slots.result c.bytes-name.ensures.same c.name_hash-hash.ensures c.slots_of-slots.ensures c.bytes-name.ensures.name
    c.first_level-from.ensures.lower c.in-None.ensures.first
