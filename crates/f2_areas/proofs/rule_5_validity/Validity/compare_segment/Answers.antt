use Rattle.f2_survey.specs.Segments.{IsSegment}
use Rattle.f2_disk.proofs.Runs.{on_ok}
use Rattle.f2_sum.specs.Records.{sit_entry}
use Rattle.f2_areas.proofs.ValidityWalks.{counts-row, marks-idle, kinds-idle}
use Rattle.f2_areas.proofs.rule_5_validity.Validity.compare_segment.Goals as goal

pub returns-then-is_idle-clause-marks : goal.returns-then-is_idle-clause-marks
returns-then-is_idle-clause-marks c = λ image s.
    marks-idle image c.args.segno (sit_entry c.args.entry.now) s.entry c.count_valid-marked.result c.count_valid-marked.ensures c.if-marked-eq0.true
    (c.is_idle.ensures image s.owners s.inside c.if-is_idle.true) c.args.self.now.marks

pub returns-then-is_idle-clause-counts : goal.returns-then-is_idle-clause-counts
returns-then-is_idle-clause-counts c = λ image s.
    counts-row image c.args.segno (sit_entry c.args.entry.now) s.entry c.count_valid-marked.result c.count_valid-marked.ensures
    c.args.self.now.counts c.compare_count.new.c c.compare_count.ensures.part c.in_ok-compare_count.ensures.compares

pub returns-then-is_idle-clause-kinds : goal.returns-then-is_idle-clause-kinds
returns-then-is_idle-clause-kinds c = λ image s.
    kinds-idle image c.args.segno (sit_entry c.args.entry.now) s.entry c.count_valid-marked.result c.count_valid-marked.ensures c.if-marked-eq0.true
    (c.is_idle.ensures image s.owners s.inside c.if-is_idle.true) c.args.self.now.kinds

pub returns-clause-counts : goal.returns-clause-counts
returns-clause-counts c = on_ok c.compare_blocks.result (λ image (s : IsSegment image c.args.owners.now c.args.segno c.args.first (sit_entry c.args.entry.now)).
    counts-row image c.args.segno (sit_entry c.args.entry.now) s.entry c.count_valid-marked.result c.count_valid-marked.ensures
    c.args.self.now.counts c.compare_count.new.c c.compare_count.ensures.part c.in_ok-compare_count.ensures.compares)
