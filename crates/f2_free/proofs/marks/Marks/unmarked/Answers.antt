use Rattle.std.proofs.Common.{ℕ, ◌<◌, not, length, sym, ap, ◌∙◌, arith}
use Rattle.f2_free.specs.SegmentMarks.{MarkTable, is_marked}
use Rattle.f2_free.proofs.MarkSteps.{mark-read}
use Rattle.f2_free.proofs.NumbersBelow.{filter-none, filter-kept, filter-left}
use Rattle.f2_free.proofs.marks.Marks.unmarked.Goals.{then-not-index+in_ok-push, else-not-index}
use Rattle.f2_free.proofs.marks.Marks.unmarked.Goals as goal

pub loop-segment-init : goal.loop-segment-init
loop-segment-init c = c.new-segments.ensures.items ∙ sym (filter-none (λ segment. not (is_marked c.args.self.now segment)))

pub loop-segment-preserved : goal.loop-segment-preserved
loop-segment-preserved c =
    let p = λ (segment : ℕ). not (is_marked c.args.self.now segment) in
    let n = c.loop-segment.segment in
    let marks = c.self.inside.segments in
    let low : n < length marks.items = let here = c.loop-segment-test.true in let many = c.len-segment-end.ensures in let long = marks.ok.0 in omega (arith, here, many, long) in
    let read = mark-read c.args.self.now n c.index.result.now marks.items c.index.ensures (ap (λ (m : MarkTable). m.segments) c.self.view_is) low in
    elim c.if-not-index.branch [
      | then-not-index+in_ok-push w ↦
          filter-kept p n c.loop-segment.segments.items c.if-not-index.segments.items (ap not (sym read ∙ w.if-not-index.true)) (ap (λ v. v.items) w.segments-is ∙ w.in_ok-push.ensures.items) c.loop-segment.invariant
      | else-not-index w ↦
          ap (λ v. v.items) w.segments-is ∙ filter-left p n c.loop-segment.segments.items (ap not (sym read ∙ w.if-not-index.false)) c.loop-segment.invariant
    ]
