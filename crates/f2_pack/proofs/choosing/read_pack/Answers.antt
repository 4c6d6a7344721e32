use Rattle.std.proofs.Common.{◌≡◌, ◌+◌, ◌-◌, ◌*◌, [], map, Ok, ap, subst, ◌∙◌, sym, arith}
use Rattle.std.specs.Prelude.{flat_map, if◌then◌else◌}
use Rattle.std.specs.List.{range_with_len}
use Rattle.std.proofs.lemmas.Result.{err_from_is_err_and}
use Rattle.f2_bytes.specs.Bytes.{block_at}
use Rattle.f2_bytes.specs.Checkpoint.{pack_at, data_summary_blocks, has_orphans, orphans_in, pack_start_sum}
use Rattle.f2_bytes.specs.Journal.{data_summary_start}
use Rattle.f2_pack.specs.Held.{blocks_of, nat_area_in, sit_area_in}
use Rattle.f2_pack.specs.Choice.{journals_in, IsChosen}
use Rattle.f2_pack.proofs.Kept.{data_end}
use Rattle.f2_pack.proofs.Making.{read_exactly, read_soundly, refused, pack_inside}
use Rattle.f2_pack.proofs.ValidHeads.{head_facts}
use Rattle.f2_pack.proofs.choosing.read_pack.Goals as goal

pub data_start-requires : goal.data_start-requires
data_start-requires g c = (head_facts c.args.l.now c.args.head.now c.requires.valid).has_room

pub read_blocks-requires-clause-inside : goal.read_blocks-requires-clause-inside
read_blocks-requires-clause-inside g c =
    let facts = head_facts c.args.l.now c.args.head.now c.requires.valid in
    let end = data_end c.args.head.now facts.has_room in
    let inside = pack_inside c.args.l.now c.requires.in_order c.args.pack c.requires.pack in
    omega (arith, facts.total, end, inside, c.requires.inside, c.from.ensures, c.from-2.ensures, c.data_start.ensures, c.data_blocks.ensures.value)

pub read_blocks-requires-clause-few : goal.read_blocks-requires-clause-few
read_blocks-requires-clause-few g c =
    let facts = head_facts c.args.l.now c.args.head.now c.requires.valid in
    let end = data_end c.args.head.now facts.has_room in
    let inside = pack_inside c.args.l.now c.requires.in_order c.args.pack c.requires.pack in
    omega (arith, facts.total, end, inside, c.requires.in_order.few, c.from.ensures, c.from-2.ensures, c.data_start.ensures, c.data_blocks.ensures.value)

pub returns-in_err-records-clause-exact : goal.returns-in_err-records-clause-exact
returns-in_err-records-clause-exact g c = λ image told is_head.
    let head = c.args.head.now in
    let pack = pack_at c.args.l.now image c.args.pack in
    let items = c.in_ok-data_summaries.data_summaries.items in
    let summaries : items ≡ blocks_of pack (data_summary_start head) (data_summary_blocks head) =
    c.in_ok-data_summaries.ensures.blocks image told
    ∙ λ i. map (λ j. block_at image (c.from.ensures i + 512 * c.from-2.ensures i + j)) (range_with_len (c.data_start.ensures i) (c.data_blocks.ensures.value i)) in
    let records = c.in_err-records.ensures ∙ ap (λ l. journals_in (nat_area_in head l) (sit_area_in head l)) c.deref.ensures.value in
    let same = err_from_is_err_and c.from_residual-in_err-records.result c.from_residual-in_err-records.ensures.1 in
    rw (same.1, same.2) (refused pack c.args.pack head items is_head summaries c.in_err-records.field-0.0 records)

pub read_blocks-requires-2-clause-inside : goal.read_blocks-requires-2-clause-inside
read_blocks-requires-2-clause-inside g c =
    let facts = head_facts c.args.l.now c.args.head.now c.requires.valid in
    let inside = pack_inside c.args.l.now c.requires.in_order c.args.pack c.requires.pack in
    omega (arith, facts.total, inside, c.requires.inside, c.from.ensures, c.from-2.ensures, c.node_start.ensures, c.node_blocks.ensures.few, c.read_blocks.ensures.goes.size)

pub read_blocks-requires-2-clause-few : goal.read_blocks-requires-2-clause-few
read_blocks-requires-2-clause-few g c =
    let facts = head_facts c.args.l.now c.args.head.now c.requires.valid in
    let inside = pack_inside c.args.l.now c.requires.in_order c.args.pack c.requires.pack in
    omega (arith, facts.total, inside, c.requires.in_order.few, c.from.ensures, c.from-2.ensures, c.node_start.ensures, c.node_blocks.ensures.few)

pub read_orphans-requires-clause-first : goal.read_orphans-requires-clause-first
read_orphans-requires-clause-first g c = (head_facts c.args.l.now c.args.head.now c.requires.valid).start

pub read_orphans-requires-clause-inside : goal.read_orphans-requires-clause-inside
read_orphans-requires-clause-inside g c =
    let facts = head_facts c.args.l.now c.args.head.now c.requires.valid in
    let inside = pack_inside c.args.l.now c.requires.in_order c.args.pack c.requires.pack in
    omega (arith, facts.total, facts.room, inside, c.requires.inside, c.from.ensures, c.from-2.ensures, c.read_blocks.ensures.goes.size, c.read_blocks-2.ensures.goes.size)

pub read_orphans-requires-clause-few : goal.read_orphans-requires-clause-few
read_orphans-requires-clause-few g c =
    let facts = head_facts c.args.l.now c.args.head.now c.requires.valid in
    let inside = pack_inside c.args.l.now c.requires.in_order c.args.pack c.requires.pack in
    omega (arith, facts.total, facts.room, inside, c.requires.in_order.few, c.from.ensures, c.from-2.ensures)

pub of-requires : goal.of-requires
of-requires g c =
    let head = c.args.head.now in
    let items = c.in_ok-data_summaries.data_summaries.items in
    let records = c.in_ok-records.ensures ∙ ap (λ l. journals_in (nat_area_in head l) (sit_area_in head l)) c.deref.ensures.value in
    (read_soundly c.args.l.now c.requires.in_order head c.block-block.ensures.block c.requires.valid c.args.pack c.requires.pack c.in_ok-records.records c.in_ok-orphans.orphans.items items c.in_ok-node_summaries.node_summaries.items
    (c.in_ok-data_summaries.ensures.count ∙ c.data_blocks.ensures.value) (c.in_ok-node_summaries.ensures.count ∙ c.node_blocks.ensures.value) records).held

pub returns-clause-exact : goal.returns-clause-exact
returns-clause-exact g c = λ image told is_head.
    let head = c.args.head.now in
    let pack = pack_at c.args.l.now image c.args.pack in
    let items = c.in_ok-data_summaries.data_summaries.items in
    let summaries : items ≡ blocks_of pack (data_summary_start head) (data_summary_blocks head) =
    c.in_ok-data_summaries.ensures.blocks image told
    ∙ λ i. map (λ j. block_at image (c.from.ensures i + 512 * c.from-2.ensures i + j)) (range_with_len (c.data_start.ensures i) (c.data_blocks.ensures.value i)) in
    let records = c.in_ok-records.ensures ∙ ap (λ l. journals_in (nat_area_in head l) (sit_area_in head l)) c.deref.ensures.value in
    let nodes =
    c.in_ok-node_summaries.ensures.blocks image (c.read_blocks.ensures.reads.told ∙ told)
    ∙ λ i. map (λ j. block_at image (c.from.ensures i + 512 * c.from-2.ensures i + j)) (range_with_len (c.node_start.ensures i) (c.node_blocks.ensures.value i)) in
    let inodes =
    c.in_ok-orphans.ensures.orphans image (c.read_blocks-2.ensures.reads.told ∙ c.read_blocks.ensures.reads.told ∙ told)
    ∙ λ i. if has_orphans head then flat_map (λ j. orphans_in (block_at image (c.from.ensures i + 512 * c.from-2.ensures i + j))) (range_with_len 1 (pack_start_sum head - 1)) else [] in
    ap (λ h. Ok h) c.of.ensures
    ∙ read_exactly pack c.args.pack head items is_head summaries c.in_ok-records.records c.in_ok-orphans.orphans.items c.in_ok-node_summaries.node_summaries.items records nodes inodes

pub returns-clause-sound : goal.returns-clause-sound
returns-clause-sound g c =
    let head = c.args.head.now in
    let items = c.in_ok-data_summaries.data_summaries.items in
    let records = c.in_ok-records.ensures ∙ ap (λ l. journals_in (nat_area_in head l) (sit_area_in head l)) c.deref.ensures.value in
    subst (IsChosen c.args.l.now) (sym c.of.ensures)
    (read_soundly c.args.l.now c.requires.in_order head c.block-block.ensures.block c.requires.valid c.args.pack c.requires.pack c.in_ok-records.records c.in_ok-orphans.orphans.items items c.in_ok-node_summaries.node_summaries.items
    (c.in_ok-data_summaries.ensures.count ∙ c.data_blocks.ensures.value) (c.in_ok-node_summaries.ensures.count ∙ c.node_blocks.ensures.value) records)
