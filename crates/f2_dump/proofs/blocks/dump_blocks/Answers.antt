use Rattle.std.proofs.Common.{◌≡◌, ◌≤◌, ◌∙◌, ℕ, List, take, ap, sym, subst}
use Rattle.f2_bytes.specs.declared.layout.Layout.{Layout}
use Rattle.f2_bytes.specs.Node.{size}
use Rattle.f2_bytes.specs.Superblock.{IsInOrder}
use Rattle.f2_dump.specs.declared.walking.File.{File}
use Rattle.f2_dump.specs.Dump.{Gathers, Dumps}
use Rattle.f2_dump.specs.Files.{file_blocks, pieces}
use Rattle.f2_dump.specs.Text.{lines_below}
use Rattle.f2_dump.specs.Walk.{IsFileOf, part}
use Rattle.f2_dump.proofs.FileParts.{inode_first, parts_all, piece_length, zeros_are}
use Rattle.f2_dump.proofs.Nodes.{layout_same}
use Rattle.f2_dump.proofs.Sending.{dumps_all, gathers_same}
use Rattle.f2_dump.proofs.blocks.dump_blocks.Goals as goal

pub gather_blocks-answer-requires-clause-steady : goal.gather_blocks-answer-requires-clause-steady
gather_blocks-answer-requires-clause-steady g c = record {
  layout = c.layout.ensures.value;
  order = c.layout.ensures.kept.in_order;
  addresses = c.addresses.ensures.most;
  hole = zeros_are c.zeros.result c.zeros.ensures;
}

pub returns-clause-bytes : goal.returns-clause-bytes
returns-clause-bytes g c = λ image told of inode.
    let b = c.args.inode.now in
    let ino = c.args.ino in
    let f : File = record { ino = ino; size = c.inode_field.result; addresses = c.addresses.result; layout = c.layout.result; hole = c.zeros.result } in
    let file : IsFileOf image f = record { inode = b; there = inode_first image ino b inode; slots = c.requires.slots; addresses = sym c.addresses.ensures.count } in
    let disk = g.D.Disk.state c.args.d.now in
    let same = layout_same image c.args.m.now of in
    let order = subst IsInOrder same c.layout.ensures.kept.in_order in
    let lies = subst (λ (l : Layout). l.blocks ≤ disk.size) same c.requires.lies in
    let whole = g.met.D.Disk.whole c.args.d.now image told in
    let count = c.file_blocks.result in
    let lines = lines_below (part image ino c.inode_field.result) count in
    let bytes : lines ≡ take (size b) (pieces image ino (file_blocks b)) =
    parts_all image ino c.inode_field.result count (λ address. piece_length image disk.size address whole order lies)
    ∙ ap (λ (n : ℕ). take n (pieces image ino count)) c.inode_field.ensures.value
    ∙ ap (λ (n : ℕ). take (size b) (pieces image ino n)) c.file_blocks.ensures.blocks in
    let walk = c.gather_blocks-answer in
    let before = g.O.Sink.told c.args.o.now in
    let mid = g.O.Sink.told walk.new.o in
    let text = walk.new.text.items in
    let gathered = subst (λ (l : List ℕ). Gathers {T = Unit {0}} lines l text before mid walk.result) c.in_ok-text.ensures.items (walk.ensures.lines image told of file inode) in
    let put = subst (λ (l : List ℕ). Dumps {T = Unit {0}} l mid (g.O.Sink.told c.finish.new.o) c.finish.result) c.deref.ensures.value c.finish.ensures.text in
    dumps_all walk.result c.finish.result c.finish.ensures.ends (gathers_same walk.result bytes gathered) put
