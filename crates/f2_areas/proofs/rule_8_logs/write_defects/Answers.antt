use Rattle.std.proofs.Common.{◌≡◌, [], ◌∙◌, arith}
use Rattle.f2_bytes.specs.Bytes.{Image}
use Rattle.f2_survey.specs.Parts.{part_in}
use Rattle.f2_survey.specs.Segments.{HasTable}
use Rattle.f2_areas.proofs.LogFacts.{fills-segment}
use Rattle.f2_areas.proofs.LogParts.{next-number, later-number, next-logs, later-logs}
use Rattle.f2_areas.proofs.Walking.{walk-none, walk-all}
use Rattle.f2_pack.specs.Logs.{log_of}
use Rattle.f2_view.specs.Mounted.{IsMountOf}
use Rattle.f2_areas.proofs.rule_8_logs.write_defects.Goals as goal

pub loop-t-init : goal.loop-t-init
loop-t-init c = record {
  next = λ image of table. walk-none (part_in image 8 3) c.new-next.result (c.new-next.ensures.part ∙ next-number image) c.new-next.ensures.none;
  later = λ image of table. walk-none (part_in image 8 4) c.new-later.result (c.new-later.ensures.part ∙ later-number image) c.new-later.ensures.none;
}

pub loop-t-preserved : goal.loop-t-preserved
loop-t-preserved c =
    let fills = λ (image : Image) (of : IsMountOf image c.args.m.now) (table : HasTable image c.args.entries.now).
    fills-segment c.args.m.now c.loop-t.t (log_of c.log-at.result) c.log-at.ensures image of c.layout.ensures.kept c.loop-t-test.true c.args.entries.now table (record { kind = 0; count = 0; map = []; mtime = 0 }) in
    record {
      next = λ image of table. c.in_ok-compare_blocks.ensures.next image (fills image of table) (c.loop-t.invariant.next image of table);
      later = λ image of table. c.in_ok-compare_blocks.ensures.later image (fills image of table) (c.loop-t.invariant.later image of table);
    }

pub returns-clause-next : goal.returns-clause-next
returns-clause-next c = λ image of table.
    let all : c.loop-t.t ≡ 6 = omega arith in
    walk-all (part_in image 8 3) c.loop-t.next c.loop-t.t (all ∙ next-logs image) (c.loop-t.invariant.next image of table)

pub returns-clause-later : goal.returns-clause-later
returns-clause-later c = λ image of table.
    let all : c.loop-t.t ≡ 6 = omega arith in
    walk-all (part_in image 8 4) c.loop-t.later c.loop-t.t (all ∙ later-logs image) (c.loop-t.invariant.later image of table)
