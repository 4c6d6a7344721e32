use Rattle.std.proofs.Common.{◌≡◌, not, filter}
use Rattle.f2_bytes.specs.Bytes.{numbers_below}
use Rattle.f2_free.specs.SegmentMarks.{is_marked}
use Rattle.f2_free.proofs.marks.Marks.unmarked.Given as goal

-- the segments so far
abbrev pub invariant-loop-segment : goal.invariant-loop-segment
invariant-loop-segment l = l.segments.items ≡ filter (λ segment. not (is_marked l.self segment)) (numbers_below l.segment)
