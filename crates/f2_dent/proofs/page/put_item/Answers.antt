use Rattle.std.proofs.Common.{ℕ, ◌+◌, ◌*◌, List, ap, ◌∙◌, arith}
use Rattle.std.specs.Prelude.{◌||◌}
use Rattle.f2_bytes.specs.Bits.{bit_lsb}
use Rattle.f2_bytes.specs.Bytes.{with_bytes}
use Rattle.f2_dent.specs.Pages.{is_among}
use Rattle.f2_dent.proofs.Items.{put_all}
use Rattle.f2_dent.proofs.page.put_item.Goals as goal

pub returns : goal.returns
returns c =
    let name : List ℕ = c.args.name.now in
    put_all c.args.block.now c.take_slots.new.block c.put.new.self c.put-2.new.self c.args.slot c.args.hash c.args.ino c.args.kind name
    c.requires.some c.requires.few c.requires.inside
    (record { hash_fits = omega arith; ino_fits = omega arith; len_fits = omega (arith, c.requires.few); kind_fits = omega arith })
    c.take_slots.ensures.block.length c.put.ensures.block.length c.take_slots.ensures.rest
    (c.put.ensures.bytes ∙ ap (with_bytes c.take_slots.new.block (30 + 11 * c.args.slot)) c.entry_bytes.ensures)
    c.put-2.ensures.bytes
    (λ t below. c.take_slots.ensures.bits t below ∙ ap (λ n. bit_lsb c.args.block.now t || is_among c.args.slot n t) c.slots_of.ensures)
