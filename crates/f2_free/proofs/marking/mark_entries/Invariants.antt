use Rattle.std.specs.List.{list_any}
use Rattle.f2_bytes.specs.Bytes.{Image, numbers_below}
use Rattle.f2_free.specs.NodePlaces.{HasTable, is_in_table}
use Rattle.f2_free.specs.SegmentMarks.{MarksBlocks, KeepsMarks}
use Rattle.f2_free.proofs.marking.mark_entries.Given as goal

-- the nodes with lesser numbers
abbrev pub invariant-loop-nid : goal.invariant-loop-nid
invariant-loop-nid l = record {
  keeps : KeepsMarks l.initial.marks l.marks;
  marks : (image : Image) → HasTable image l.entries → MarksBlocks l.initial.marks l.marks (λ a. list_any (λ nid. is_in_table image nid a) (numbers_below l.nid));
}
