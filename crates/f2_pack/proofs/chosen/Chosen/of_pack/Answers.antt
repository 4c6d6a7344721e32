use Rattle.std.proofs.Common.{◌≡◌, [], length, true, Ok, sym, ap, subst, ◌∙◌, arith}
use Rattle.f2_bytes.specs.Bytes.{IsBlock}
use Rattle.f2_bytes.specs.Checksum.{with_seal}
use Rattle.f2_bytes.specs.Checkpoint.{has_orphans, data_summary_blocks, node_summary_blocks}
use Rattle.f2_bytes.specs.Journal.{nat_records, sit_records, nat_journal_area, sit_journal_area}
use Rattle.f2_pack.specs.Choice.{IsChosen, journals_in, read_of}
use Rattle.f2_pack.specs.Held.{chosen_of, nat_area_in, sit_area_in}
use Rattle.f2_pack.specs.Written.{written}
use Rattle.f2_pack.specs.Valid.{is_head_valid}
use Rattle.f2_pack.proofs.Making.{areas, bounded_not_err, bounded_value, ok_same, read_exactly, read_soundly}
use Rattle.f2_pack.proofs.ValidHeads.{head_of_valid}
use Rattle.f2_pack.proofs.Kept.{when_false}
use Rattle.f2_pack.proofs.Writes.{written_data, written_data_count, written_nodes, written_node_count, no_orphans, counts_bounded}
use Rattle.f2_pack.proofs.chosen.Chosen.of_pack.Goals as goal

pub journals-requires : goal.journals-requires
journals-requires c =
    let p = c.args.p.now in
    let six : length p.sums ≡ 6 = omega arith in
    let is_head = c.of-head.ensures ∙ c.sealed_copy.ensures.bytes in
    c.three.ensures.count ∙ written_data_count p c.of-head.result is_head c.sealed_copy.ensures.size six c.requires.normal

pub unreachable-requires : goal.unreachable-requires
unreachable-requires c =
    let p = c.args.p.now in
    let head = c.of-head.result in
    let pack = written p in
    let six : length p.sums ≡ 6 = omega arith in
    let is_head : head ≡ with_seal p.head = c.of-head.ensures ∙ c.sealed_copy.ensures.bytes in
    let summaries = c.three.ensures.blocks ∙ written_data p head is_head c.sealed_copy.ensures.size six c.requires.normal in
    let few = counts_bounded pack c.requires.bounded in
    let N = nat_journal_area pack in
    let S = sit_journal_area pack in
    bounded_not_err N S c.in-Err.field-0 (nat_records N, sit_records S) few.0 few.1 (c.in-Err.ensures ∙ areas pack p.pack head c.three.result.now (sym is_head) summaries)

pub of-requires : goal.of-requires
of-requires c =
    let p = c.args.p.now in
    let head = c.of-head.result in
    let six : length p.sums ≡ 6 = omega arith in
    let is_head : head ≡ with_seal p.head = c.of-head.ensures ∙ c.sealed_copy.ensures.bytes in
    let block : IsBlock head = subst IsBlock (sym c.of-head.ensures) c.sealed_copy.ensures.block in
    let valid : is_head_valid c.args.l.now head ≡ true = ap (is_head_valid c.args.l.now) is_head ∙ head_of_valid c.args.l.now (written p) c.requires.valid in
    let items = c.in-Ok-from_slice.data_summaries.items in
    let nodes = c.in-Ok-from_slice-2.node_summaries.items in
    let is_items : items ≡ c.three.result.now = c.in-Ok-from_slice.ensures.items ∙ c.three-2.ensures.blocks ∙ sym c.three.ensures.blocks in
    let records = c.in-Ok.ensures ∙ ap (λ l. journals_in (nat_area_in head l) (sit_area_in head l)) (sym is_items) in
    let count : length items ≡ data_summary_blocks head = ap length is_items ∙ c.three.ensures.count ∙ written_data_count p head is_head c.sealed_copy.ensures.size six c.requires.normal in
    let node_count : length nodes ≡ node_summary_blocks head = ap length c.in-Ok-from_slice-2.ensures.items ∙ c.three-3.ensures.count ∙ written_node_count p head is_head c.sealed_copy.ensures.size six c.requires.normal in
    (read_soundly c.args.l.now c.requires.in_order head block valid p.pack c.requires.pack c.in-Ok.records c.new.result.items items nodes count node_count records).held

pub returns-clause-value : goal.returns-clause-value
returns-clause-value c =
    let p = c.args.p.now in
    let head = c.of-head.result in
    let pack = written p in
    let six : length p.sums ≡ 6 = omega arith in
    let is_head : head ≡ with_seal p.head = c.of-head.ensures ∙ c.sealed_copy.ensures.bytes in
    let items = c.in-Ok-from_slice.data_summaries.items in
    let is_items : items ≡ c.three.result.now = c.in-Ok-from_slice.ensures.items ∙ c.three-2.ensures.blocks ∙ sym c.three.ensures.blocks in
    let summaries = is_items ∙ c.three.ensures.blocks ∙ written_data p head is_head c.sealed_copy.ensures.size six c.requires.normal in
    let nodes = c.in-Ok-from_slice-2.ensures.items ∙ c.three-3.ensures.blocks ∙ written_nodes p head is_head c.sealed_copy.ensures.size six c.requires.normal in
    let records = c.in-Ok.ensures ∙ ap (λ l. journals_in (nat_area_in head l) (sit_area_in head l)) (sym is_items) in
    let inodes = c.new.ensures.items ∙ sym (when_false (has_orphans head) _ [] (no_orphans p head is_head c.sealed_copy.ensures.size six c.requires.normal)) in
    let few = counts_bounded pack c.requires.bounded in
    let read = read_exactly pack p.pack head items (sym is_head) summaries c.in-Ok.records c.new.result.items c.in-Ok-from_slice-2.node_summaries.items records nodes inodes in
    let answer : read_of pack p.pack ≡ Ok (chosen_of pack p.pack) = bounded_value (nat_journal_area pack) (sit_journal_area pack) (chosen_of pack p.pack) few.0 few.1 in
    c.of.ensures ∙ ok_same _ (chosen_of pack p.pack) (read ∙ answer)

pub returns-clause-sound : goal.returns-clause-sound
returns-clause-sound c =
    let p = c.args.p.now in
    let head = c.of-head.result in
    let six : length p.sums ≡ 6 = omega arith in
    let is_head : head ≡ with_seal p.head = c.of-head.ensures ∙ c.sealed_copy.ensures.bytes in
    let block : IsBlock head = subst IsBlock (sym c.of-head.ensures) c.sealed_copy.ensures.block in
    let valid : is_head_valid c.args.l.now head ≡ true = ap (is_head_valid c.args.l.now) is_head ∙ head_of_valid c.args.l.now (written p) c.requires.valid in
    let items = c.in-Ok-from_slice.data_summaries.items in
    let nodes = c.in-Ok-from_slice-2.node_summaries.items in
    let is_items : items ≡ c.three.result.now = c.in-Ok-from_slice.ensures.items ∙ c.three-2.ensures.blocks ∙ sym c.three.ensures.blocks in
    let records = c.in-Ok.ensures ∙ ap (λ l. journals_in (nat_area_in head l) (sit_area_in head l)) (sym is_items) in
    let count : length items ≡ data_summary_blocks head = ap length is_items ∙ c.three.ensures.count ∙ written_data_count p head is_head c.sealed_copy.ensures.size six c.requires.normal in
    let node_count : length nodes ≡ node_summary_blocks head = ap length c.in-Ok-from_slice-2.ensures.items ∙ c.three-3.ensures.count ∙ written_node_count p head is_head c.sealed_copy.ensures.size six c.requires.normal in
    subst (IsChosen c.args.l.now) (sym c.of.ensures)
    (read_soundly c.args.l.now c.requires.in_order head block valid p.pack c.requires.pack c.in-Ok.records c.new.result.items items nodes count node_count records)
