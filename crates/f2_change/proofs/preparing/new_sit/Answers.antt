use Rattle.std.proofs.Common.{ℕ, ◌*◌, ◌<◌, ◌≤◌, List, map, length, sym, ap, subst, ◌∙◌, arith}
use Rattle.std.specs.Prelude.{All}
use Rattle.f2_bytes.specs.Checkpoint.{sit_bits, sit_ver_bitmap_bytesize}
use Rattle.f2_bytes.specs.declared.layout.Layout.{Layout}
use Rattle.f2_pack.specs.Held.{Held}
use Rattle.f2_tables.specs.Tables.{sit_in}
use Rattle.f2_view.specs.Mounted.{layout_in}
use Rattle.f2_change.specs.Change.{TurnsBits, sit_turned, turned_below, sit_other_address}
use Rattle.f2_change.specs.TableBlocks.{IsSitBlock, AreEach}
use Rattle.f2_change.proofs.TurnedTables.{turned_inside, turns_listed, sit_opened, sit_listed, sit_blocks_of}
use Rattle.f2_change.proofs.preparing.new_sit.Goals as goal

pub turned_bits-requires : goal.turned_bits-requires
turned_bits-requires g c = record {
  inside =
      let m = c.args.m.now in
      let held = c.chosen-chosen.result.now in
      let turned = sit_turned (layout_in m) c.args.entries.now m.chosen.sit_journal in
      let limit = 8 * length c.sit_bits-2.result.now in
      let listed = sit_listed m c.layout-l.result held c.sit_bits.result.now c.layout-l.ensures.value c.chosen-chosen.ensures c.sit_journal.result.now c.args.entries.now c.in_ok-sit.sit c.change_sit.new.sit c.sit_bits.ensures.value c.sit_journal.ensures.value c.in_ok-sit.ensures c.in_ok-change_sit.ensures.done in
      let kept = c.layout-l.ensures.kept in
      let few : (layout_in m).sit_half ≤ limit = omega (arith, c.sit_bits-2.ensures.length, ap (λ (h : Held). sit_ver_bitmap_bytesize h.head) c.chosen-chosen.ensures, kept.chosen.sit_bits, kept.in_order.sit_whole) in
      subst (λ (ks : List ℕ). All (λ k. k < limit) ks) (sym (c.deref.ensures.value ∙ c.in_ok-dirty.ensures ∙ listed)) (turned_inside (layout_in m).sit_half limit turned few);
}

pub sit_blocks-requires-clause-blocks : goal.sit_blocks-requires-clause-blocks
sit_blocks-requires-clause-blocks g c =
    let m = c.args.m.now in
    let held = c.chosen-chosen.result.now in
    let turned = sit_turned (layout_in m) c.args.entries.now m.chosen.sit_journal in
    let limit = c.layout-l.result.sit_half in
    let listed = sit_listed m c.layout-l.result held c.sit_bits.result.now c.layout-l.ensures.value c.chosen-chosen.ensures c.sit_journal.result.now c.args.entries.now c.in_ok-sit.sit c.change_sit.new.sit c.sit_bits.ensures.value c.sit_journal.ensures.value c.in_ok-sit.ensures c.in_ok-change_sit.ensures.done in
    let few : (layout_in m).sit_half ≤ limit = omega (arith, ap (λ (l : Layout). l.sit_half) c.layout-l.ensures.value) in
    subst (λ (ks : List ℕ). All (λ k. k < limit) ks) (sym (c.deref-2.ensures.value ∙ c.in_ok-dirty.ensures ∙ listed)) (turned_inside (layout_in m).sit_half limit turned few)

pub returns-clause-bits : goal.returns-clause-bits
returns-clause-bits g c =
    let m = c.args.m.now in
    let held = c.chosen-chosen.result.now in
    let turned = sit_turned (layout_in m) c.args.entries.now m.chosen.sit_journal in
    let bits = c.sit_bits-2.result.now in
    let listed = sit_listed m c.layout-l.result held c.sit_bits.result.now c.layout-l.ensures.value c.chosen-chosen.ensures c.sit_journal.result.now c.args.entries.now c.in_ok-sit.sit c.change_sit.new.sit c.sit_bits.ensures.value c.sit_journal.ensures.value c.in_ok-sit.ensures c.in_ok-change_sit.ensures.done in
    let kept = c.layout-l.ensures.kept in
    let few : 8 * length bits ≤ (layout_in m).sit_half = omega (arith, c.sit_bits-2.ensures.length, ap (λ (h : Held). sit_ver_bitmap_bytesize h.head) c.chosen-chosen.ensures, kept.chosen.sit_bits) in
    subst (λ (old : List ℕ). TurnsBits old c.in_ok-bits.bits.items turned) (c.sit_bits-2.ensures.value ∙ ap (λ (h : Held). sit_bits h.head) c.chosen-chosen.ensures)
    (turns_listed bits c.in_ok-bits.bits.items c.deref.result.now (layout_in m).sit_half turned (c.deref.ensures.value ∙ c.in_ok-dirty.ensures ∙ listed) few c.in_ok-bits.ensures)

pub returns-clause-addresses : goal.returns-clause-addresses
returns-clause-addresses g c =
    let m = c.args.m.now in
    let held = c.chosen-chosen.result.now in
    let listed = sit_listed m c.layout-l.result held c.sit_bits.result.now c.layout-l.ensures.value c.chosen-chosen.ensures c.sit_journal.result.now c.args.entries.now c.in_ok-sit.sit c.change_sit.new.sit c.sit_bits.ensures.value c.sit_journal.ensures.value c.in_ok-sit.ensures c.in_ok-change_sit.ensures.done in
    let bits = c.sit_bits-3.ensures.value ∙ ap (λ (h : Held). sit_bits h.head) c.chosen-chosen.ensures in
    let ks = c.deref-2.ensures.value ∙ c.in_ok-dirty.ensures ∙ listed in
    c.in_ok-blocks.ensures.addresses ∙ λ i. map (sit_other_address (c.layout-l.ensures.value i) (bits i)) (ks i)

pub returns-clause-entries : goal.returns-clause-entries
returns-clause-entries g c = λ image told of.
    let m = c.args.m.now in
    let held = c.chosen-chosen.result.now in
    let opened = sit_opened m c.layout-l.result held c.sit_bits.result.now c.layout-l.ensures.value c.chosen-chosen.ensures c.sit_journal.result.now c.args.entries.now c.in_ok-sit.sit c.change_sit.new.sit c.sit_bits.ensures.value c.sit_journal.ensures.value c.in_ok-sit.ensures c.in_ok-change_sit.ensures.done in
    let listed = sit_listed m c.layout-l.result held c.sit_bits.result.now c.layout-l.ensures.value c.chosen-chosen.ensures c.sit_journal.result.now c.args.entries.now c.in_ok-sit.sit c.change_sit.new.sit c.sit_bits.ensures.value c.sit_journal.ensures.value c.in_ok-sit.ensures c.in_ok-change_sit.ensures.done in
    let ks = c.deref-2.ensures.value ∙ c.in_ok-dirty.ensures ∙ listed in
    sit_blocks_of image m of c.args.entries.now c.in_ok-sit.sit c.change_sit.new.sit c.deref-2.result.now (turned_below (layout_in m).sit_half (sit_turned (layout_in m) c.args.entries.now m.chosen.sit_journal)) c.in_ok-blocks.blocks.items opened c.in_ok-change_sit.ensures.done ks
    (subst (λ (l : Layout). AreEach (IsSitBlock l.segments (sit_in c.change_sit.new.sit image)) c.deref-2.result.now c.in_ok-blocks.blocks.items) c.layout-l.ensures.value
    (c.in_ok-blocks.ensures.entries image (ap (λ d. (g.D.Disk.state d).told) c.in_ok-change_sit.ensures.disk ∙ told)))
