use Rattle.std.proofs.Common.{◌+◌, ◌*◌, sym, ap, subst, arith}
use Rattle.f2_bytes.specs.declared.layout.Layout.{Layout}
use Rattle.f2_survey.specs.Segments.{IsSegment, HasSummaries}
use Rattle.f2_sum.specs.Records.{sit_entry}
use Rattle.f2_areas.proofs.SummaryWalks.{nids-clear, places-clear, types-clear, types-row}
use Rattle.f2_areas.proofs.rule_6_summaries.Summaries.compare_segment.Goals as goal

pub returns-then-not-has_valid-clause-nids : goal.returns-then-not-has_valid-clause-nids
returns-then-not-has_valid-clause-nids g c = λ image told of s.
    nids-clear image c.args.segno (sit_entry c.args.entry.now) s.entry (sym c.if-not-has_valid.ensures) c.args.self.now.nids

pub returns-then-not-has_valid-clause-places : goal.returns-then-not-has_valid-clause-places
returns-then-not-has_valid-clause-places g c = λ image told of s.
    places-clear image c.args.segno (sit_entry c.args.entry.now) s.entry (sym c.if-not-has_valid.ensures) c.args.self.now.places

pub returns-then-not-has_valid-clause-types : goal.returns-then-not-has_valid-clause-types
returns-then-not-has_valid-clause-types g c = λ image told of s.
    types-clear image c.args.segno (sit_entry c.args.entry.now) s.entry (sym c.if-not-has_valid.ensures) c.args.self.now.types

pub returns-clause-types : goal.returns-clause-types
returns-clause-types g c = λ image told of s.
    types-row image c.args.segno (sit_entry c.args.entry.now) s.entry (sym c.if-not-has_valid.ensures)
    c.read_summaries.new.into c.in_ok-stored.stored (c.in_ok-stored.ensures.log image of) (c.in_ok-stored.ensures.stored image told of)
    c.args.self.now.types c.compare_type.new.c c.compare_type.ensures.part c.in_ok-compare_type.ensures.compares

pub compare_blocks-requires : goal.compare_blocks-requires
compare_blocks-requires g c =
    let order = c.layout-l.ensures.kept.in_order in
    let main = ap (λ (l : Layout). l.main) c.layout-l.ensures.value in
    omega (arith, main, order.inside, order.few, c.requires.segment)

pub returns-clause-nids : goal.returns-clause-nids
returns-clause-nids g c = λ image told of s.
    let at = ap (λ (l : Layout). l.main + 512 * c.args.segno) (sym c.layout-l.ensures.value) in
    c.in_ok-compare_blocks.ensures.nids image
    (subst (λ n. IsSegment image c.args.owners.now c.args.segno n (sit_entry c.args.entry.now)) at s)
    (subst (λ n. HasSummaries image n c.read_summaries.new.into) at (c.in_ok-stored.ensures.summaries image told of))

pub returns-clause-places : goal.returns-clause-places
returns-clause-places g c = λ image told of s.
    let at = ap (λ (l : Layout). l.main + 512 * c.args.segno) (sym c.layout-l.ensures.value) in
    c.in_ok-compare_blocks.ensures.places image
    (subst (λ n. IsSegment image c.args.owners.now c.args.segno n (sit_entry c.args.entry.now)) at s)
    (subst (λ n. HasSummaries image n c.read_summaries.new.into) at (c.in_ok-stored.ensures.summaries image told of))
