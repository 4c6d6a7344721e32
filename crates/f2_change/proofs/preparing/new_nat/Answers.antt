use Rattle.std.proofs.Common.{ℕ, ◌*◌, ◌<◌, ◌≤◌, List, map, length, sym, ap, subst, ◌∙◌, arith}
use Rattle.std.specs.Prelude.{All}
use Rattle.f2_bytes.specs.Checkpoint.{nat_bits, nat_ver_bitmap_bytesize}
use Rattle.f2_bytes.specs.declared.layout.Layout.{Layout}
use Rattle.f2_pack.specs.Held.{Held}
use Rattle.f2_view.specs.Mounted.{layout_in}
use Rattle.f2_change.specs.Change.{TurnsBits, nat_turned, turned_below, nat_other_address}
use Rattle.f2_change.proofs.TurnedTables.{turned_inside, turns_listed, nat_opened, nat_listed, nat_blocks_of}
use Rattle.f2_change.proofs.preparing.new_nat.Goals as goal

pub turned_bits-requires : goal.turned_bits-requires
turned_bits-requires g c = record {
  inside =
      let m = c.args.m.now in
      let held = c.chosen-chosen.result.now in
      let turned = nat_turned (layout_in m) c.args.entries.now m.chosen.nat_journal in
      let limit = 8 * length c.nat_bits-2.result.now in
      let listed = nat_listed m c.layout-l.result held c.nat_bits.result.now c.layout-l.ensures.value c.chosen-chosen.ensures c.nat_journal.result.now c.args.entries.now c.in_ok-nat.nat c.change_nat.new.nat c.nat_bits.ensures.value c.nat_journal.ensures.value c.in_ok-nat.ensures c.in_ok-change_nat.ensures.done in
      let kept = c.layout-l.ensures.kept in
      let few : (layout_in m).nat_half ≤ limit = omega (arith, c.nat_bits-2.ensures.length, ap (λ (h : Held). nat_ver_bitmap_bytesize h.head) c.chosen-chosen.ensures, kept.chosen.nat_bits, kept.in_order.nat_whole) in
      subst (λ (ks : List ℕ). All (λ k. k < limit) ks) (sym (c.deref.ensures.value ∙ c.in_ok-dirty.ensures ∙ listed)) (turned_inside (layout_in m).nat_half limit turned few);
}

pub nat_blocks-requires-clause-blocks : goal.nat_blocks-requires-clause-blocks
nat_blocks-requires-clause-blocks g c =
    let m = c.args.m.now in
    let held = c.chosen-chosen.result.now in
    let turned = nat_turned (layout_in m) c.args.entries.now m.chosen.nat_journal in
    let limit = c.layout-l.result.nat_half in
    let listed = nat_listed m c.layout-l.result held c.nat_bits.result.now c.layout-l.ensures.value c.chosen-chosen.ensures c.nat_journal.result.now c.args.entries.now c.in_ok-nat.nat c.change_nat.new.nat c.nat_bits.ensures.value c.nat_journal.ensures.value c.in_ok-nat.ensures c.in_ok-change_nat.ensures.done in
    let few : (layout_in m).nat_half ≤ limit = omega (arith, ap (λ (l : Layout). l.nat_half) c.layout-l.ensures.value) in
    subst (λ (ks : List ℕ). All (λ k. k < limit) ks) (sym (c.deref-2.ensures.value ∙ c.in_ok-dirty.ensures ∙ listed)) (turned_inside (layout_in m).nat_half limit turned few)

pub returns-clause-bits : goal.returns-clause-bits
returns-clause-bits g c =
    let m = c.args.m.now in
    let held = c.chosen-chosen.result.now in
    let turned = nat_turned (layout_in m) c.args.entries.now m.chosen.nat_journal in
    let bits = c.nat_bits-2.result.now in
    let listed = nat_listed m c.layout-l.result held c.nat_bits.result.now c.layout-l.ensures.value c.chosen-chosen.ensures c.nat_journal.result.now c.args.entries.now c.in_ok-nat.nat c.change_nat.new.nat c.nat_bits.ensures.value c.nat_journal.ensures.value c.in_ok-nat.ensures c.in_ok-change_nat.ensures.done in
    let kept = c.layout-l.ensures.kept in
    let few : 8 * length bits ≤ (layout_in m).nat_half = omega (arith, c.nat_bits-2.ensures.length, ap (λ (h : Held). nat_ver_bitmap_bytesize h.head) c.chosen-chosen.ensures, kept.chosen.nat_bits) in
    subst (λ (old : List ℕ). TurnsBits old c.in_ok-bits.bits.items turned) (c.nat_bits-2.ensures.value ∙ ap (λ (h : Held). nat_bits h.head) c.chosen-chosen.ensures)
    (turns_listed bits c.in_ok-bits.bits.items c.deref.result.now (layout_in m).nat_half turned (c.deref.ensures.value ∙ c.in_ok-dirty.ensures ∙ listed) few c.in_ok-bits.ensures)

pub returns-clause-addresses : goal.returns-clause-addresses
returns-clause-addresses g c =
    let m = c.args.m.now in
    let held = c.chosen-chosen.result.now in
    let listed = nat_listed m c.layout-l.result held c.nat_bits.result.now c.layout-l.ensures.value c.chosen-chosen.ensures c.nat_journal.result.now c.args.entries.now c.in_ok-nat.nat c.change_nat.new.nat c.nat_bits.ensures.value c.nat_journal.ensures.value c.in_ok-nat.ensures c.in_ok-change_nat.ensures.done in
    let bits = c.nat_bits-3.ensures.value ∙ ap (λ (h : Held). nat_bits h.head) c.chosen-chosen.ensures in
    let ks = c.deref-2.ensures.value ∙ c.in_ok-dirty.ensures ∙ listed in
    c.in_ok-blocks.ensures.addresses ∙ λ i. map (nat_other_address (c.layout-l.ensures.value i) (bits i)) (ks i)

pub returns-clause-entries : goal.returns-clause-entries
returns-clause-entries g c = λ image told of.
    let m = c.args.m.now in
    let held = c.chosen-chosen.result.now in
    let opened = nat_opened m c.layout-l.result held c.nat_bits.result.now c.layout-l.ensures.value c.chosen-chosen.ensures c.nat_journal.result.now c.args.entries.now c.in_ok-nat.nat c.change_nat.new.nat c.nat_bits.ensures.value c.nat_journal.ensures.value c.in_ok-nat.ensures c.in_ok-change_nat.ensures.done in
    let listed = nat_listed m c.layout-l.result held c.nat_bits.result.now c.layout-l.ensures.value c.chosen-chosen.ensures c.nat_journal.result.now c.args.entries.now c.in_ok-nat.nat c.change_nat.new.nat c.nat_bits.ensures.value c.nat_journal.ensures.value c.in_ok-nat.ensures c.in_ok-change_nat.ensures.done in
    let ks = c.deref-2.ensures.value ∙ c.in_ok-dirty.ensures ∙ listed in
    nat_blocks_of image m of c.args.entries.now c.in_ok-nat.nat c.change_nat.new.nat c.deref-2.result.now (turned_below (layout_in m).nat_half (nat_turned (layout_in m) c.args.entries.now m.chosen.nat_journal)) c.in_ok-blocks.blocks.items opened c.in_ok-change_nat.ensures.done ks
    (c.in_ok-blocks.ensures.entries image (ap (λ d. (g.D.Disk.state d).told) c.in_ok-change_nat.ensures.disk ∙ told))
