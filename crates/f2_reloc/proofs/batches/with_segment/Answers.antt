use Rattle.std.proofs.Common.{◌+◌, sym, subst, arith}
use Rattle.f2_reloc.specs.Emptying.{IsCutting}
use Rattle.f2_reloc.proofs.CutSteps.{segment_fits, segment_over}
use Rattle.f2_reloc.proofs.batches.with_segment.Goals as goal

pub returns-then-held-more-gt-MOST-clause-cut : goal.returns-then-held-more-gt-MOST-clause-cut
returns-then-held-more-gt-MOST-clause-cut c = λ l range nids p parts all order count so_far.
    let old = c.args.cutting in
    let many = c.if-held-more-gt-MOST.true in
    subst (λ cut. IsCutting l range nids p parts all cut (record { first = c.args.segno; end = c.args.segno + 1 }) c.args.more) (sym c.in_ok-push.ensures.items)
    (segment_over l range nids p parts all old.cut.items old.batch old.held c.args.more c.args.segno c.requires.next order count so_far (omega (arith, many)))

pub returns-clause-cut : goal.returns-clause-cut
returns-clause-cut c = λ l range nids p parts all order count so_far.
    let old = c.args.cutting in
    let few = c.if-held-more-gt-MOST.false in
    segment_fits l range nids p parts all old.cut.items old.batch old.held c.args.more c.args.segno c.requires.next order count so_far (omega (arith, few))
