use Rattle.std.proofs.Common.{◌+◌}
use Rattle.std.specs.Prelude.{◌==◌}
use Rattle.std.specs.List.{list_any}
use Rattle.f2_bytes.specs.Bytes.{word, numbers_below}
use Rattle.f2_free.specs.SegmentMarks.{MarksBlocks}
use Rattle.f2_free.proofs.slots.mark_words.Given as goal

-- the words so far
abbrev pub invariant-loop-j : goal.invariant-loop-j
invariant-loop-j l = MarksBlocks l.initial.marks l.marks (λ a. list_any (λ j. word l.b (l.from + j) == a) (numbers_below l.j))
