use Rattle.std.proofs.Common.{◌≡◌, [], get_or, ◌==◌, ◌∙◌, not, arith}
use Rattle.std.specs.Prelude.{nat_lt}
use Rattle.std.specs.List.{list_any}
use Rattle.f2_bytes.specs.Bits.{bit_msb}
use Rattle.f2_bytes.specs.Bytes.{numbers_below}
use Rattle.f2_bytes.specs.Check.{where_true, fails_where, digit}
use Rattle.f2_survey.specs.Parts.{part_in}
use Rattle.f2_sum.specs.Records.{sit_entry}
use Rattle.f2_sum.specs.declared.records.SitEntry.{SitEntry}
use Rattle.f2_areas.proofs.LogFacts.{fills-segment}
use Rattle.f2_areas.proofs.LogParts.{kinds-number, kinds-logs, kinds-one, kind-at}
use Rattle.f2_areas.proofs.Walking.{walk-none, walk-more, walk-row, walk-all}
use Rattle.f2_pack.specs.Logs.{log_of as held_log}
use Rattle.f2_areas.proofs.rule_8_logs.kind_defects.Goals as goal

pub loop-t-init : goal.loop-t-init
loop-t-init c = λ image of table. walk-none (part_in image 8 2) c.new-c.result (c.new-c.ensures.part ∙ kinds-number image) c.new-c.ensures.none

pub loop-t-preserved : goal.loop-t-preserved
loop-t-preserved c = λ image of table.
    let t = c.loop-t.t in
    let entries = c.args.entries.now in
    let d : SitEntry = record { kind = 0; count = 0; map = []; mtime = 0 } in
    let held = get_or entries c.log-at.result.segno d in
    let e = sit_entry held in
    let fills = fills-segment c.args.m.now t (held_log c.log-at.result) c.log-at.ensures image of c.layout.ensures.kept c.loop-t-test.true entries table d in
    walk-row (part_in image 8 2) c.compare_kind.new.c t 1 (kinds-one image t)
    (walk-more (part_in image 8 2) c.loop-t.c c.compare_kind.new.c t 0
    (where_true (list_any (bit_msb e.map) (numbers_below 512)) (fails_where (not (digit (nat_lt e.kind 3) == digit (nat_lt t 3))) e.kind t))
    c.compare_kind.ensures.part c.in_ok-compare_kind.ensures.compares
    (kind-at image t e fills.entry) (c.loop-t.invariant image of table))

pub returns : goal.returns
returns c = λ image of table.
    let all : c.loop-t.t ≡ 6 = omega arith in
    walk-all (part_in image 8 2) c.loop-t.c c.loop-t.t (all ∙ kinds-logs image) (c.loop-t.invariant image of table)
