use Rattle.std.proofs.Common.{◌==◌, ◌&&◌, not, nat_le, sym, ◌∙◌}
use Rattle.f2_free.specs.NodePlaces.{place_said}
use Rattle.f2_free.proofs.MarkSteps.{marks-place, marks-place_none}
use Rattle.f2_free.proofs.marking.mark_entry.Goals as goal

pub returns-then-is_node : goal.returns-then-is_node
returns-then-is_node c =
    let e = c.args.entry in
    marks-place (nat_le 3 c.args.nid && not (e.addr == 0)) (record { ino = e.ino; address = e.addr }) (sym c.if-is_node.true ∙ c.is_node.ensures) c.mark.ensures

pub returns-else-is_node : goal.returns-else-is_node
returns-else-is_node c = marks-place_none c.args.marks.now (place_said c.args.nid c.args.entry) (sym c.if-is_node.false ∙ c.is_node.ensures)
