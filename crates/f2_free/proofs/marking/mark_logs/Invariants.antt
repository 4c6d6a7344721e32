use Rattle.std.specs.Prelude.{◌==◌}
use Rattle.std.specs.List.{list_any}
use Rattle.f2_bytes.specs.Bytes.{numbers_below}
use Rattle.f2_bytes.specs.Checkpoint.{log}
use Rattle.f2_free.specs.SegmentMarks.{MarksMore}
use Rattle.f2_free.proofs.marking.mark_logs.Given as goal

-- the logs so far
abbrev pub invariant-loop-t : goal.invariant-loop-t
invariant-loop-t l = MarksMore l.initial.marks l.marks (λ segment. list_any (λ t. (log l.m.chosen.head t).segment == segment) (numbers_below l.t))
