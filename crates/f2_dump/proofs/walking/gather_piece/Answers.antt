use Rattle.std.proofs.Common.{◌-◌, ◌*◌, ◌∙◌, cond, take, refl}
use Rattle.f2_dump.specs.Walk.{part}
use Rattle.f2_dump.proofs.FileParts.{part_is}
use Rattle.f2_dump.proofs.Nodes.{layout_same}
use Rattle.f2_dump.proofs.Sending.{held_none, held_cut, gathers_same}
use Rattle.f2_dump.proofs.walking.gather_piece.Goals as goal

pub returns-in_err-address-clause-lines : goal.returns-in_err-address-clause-lines
returns-in_err-address-clause-lines g c = λ image told of file reached.
    held_cut (part image c.args.file.now.ino c.args.file.now.size c.args.k) c.from_residual.result c.from_residual.ensures.0 (held_none c.args.text.now.items (g.O.Sink.told c.args.o.now))

pub returns-in_err-there-clause-lines : goal.returns-in_err-there-clause-lines
returns-in_err-there-clause-lines g c = λ image told of file reached.
    held_cut (part image c.args.file.now.ino c.args.file.now.size c.args.k) c.from_residual-in_err-there.result c.from_residual-in_err-there.ensures.0 (held_none c.args.text.now.items (g.O.Sink.told c.args.o.now))

pub returns-clause-lines : goal.returns-clause-lines
returns-clause-lines g c = λ image told of file reached.
    let f = c.args.file.now in
    let address = c.in_ok-address.ensures.address image told of file reached in
    let block = c.in_ok-there.ensures.block image (c.address_of.ensures.reads.told ∙ told) (c.requires.steady.layout ∙ layout_same image c.args.m.now of) in
    let count = f.size - 4096 * c.args.k in
    let same = part_is image f.ino f.size c.args.k c.in_ok-address.address count c.in_ok-there.there c.read_main.new.into f.hole address block c.requires.steady.hole refl in
    gathers_same c.keep_room.result same (c.keep_room.ensures.text c.args.text.now.items (take count (cond c.in_ok-there.there c.read_main.new.into f.hole)) c.push_piece-pushed.ensures.bytes)
