use Rattle.std.proofs.Common.{◌≡◌, ◌+◌, [], get_or, map, cond, sym, ap, ◌∙◌, arith, ℕ}
use Rattle.f2_bytes.specs.Bytes.{count_below}
use Rattle.f2_bytes.specs.Checkpoint.{log, log_numbers}
use Rattle.f2_bytes.specs.declared.layout.Layout.{Layout}
use Rattle.f2_areas.specs.Totals.{is_free}
use Rattle.f2_sum.specs.Records.{sit_entry}
use Rattle.f2_sum.specs.declared.records.SitEntry.{SitEntry}
use Rattle.f2_survey.proofs.CountedTests.{counted-is}
use Rattle.f2_areas.proofs.CountParts.{count-none, count-more, counted-low, free-at}
use Rattle.f2_areas.proofs.SegmentFacts.{own-inside, table-entry}
use Rattle.f2_view.proofs.TableReadings.{own_layout, own_head}
use Rattle.f2_areas.proofs.rule_7_counts.count_free.Goals as goal

pub loop-segno-init : goal.loop-segno-init
loop-segno-init c = record { low = omega arith; count = λ image of table. sym (count-none (is_free image)) }

pub overflow_add-free : goal.overflow_add-free
overflow_add-free c = let one = counted-low c.from-free.result c.is_free-is_one.result c.from-free.ensures in omega (arith, one, c.loop-segno.invariant.low)

pub loop-segno-preserved : goal.loop-segno-preserved
loop-segno-preserved c =
    let m = c.args.m.now in
    let entries = c.args.entries.now in
    let segno = c.loop-segno.segno in
    let d : SitEntry = record { kind = 0; count = 0; map = []; mtime = 0 } in
    let one = counted-low c.from-free.result c.is_free-is_one.result c.from-free.ensures in
    record {
      low = omega (arith, one, c.loop-segno.invariant.low);
      count = λ image of table.
          let entry = table-entry image entries table segno d (own-inside image entries table m of c.layout-l.result c.layout-l.ensures.value segno c.loop-segno-test.true) in
          let logs = c.log_segments-logs.ensures ∙ (λ i. map (λ t. (log (own_head image m of i) t).segment) log_numbers) in
          let free = c.is_free-is_one.ensures ∙ free-at image (sit_entry (get_or entries segno d)) segno c.log_segments-logs.result entry logs in
          ap (λ n. c.loop-segno.free + n) (counted-is c.from-free.result c.is_free-is_one.result c.from-free.ensures)
          ∙ (λ i. c.loop-segno.invariant.count image of table i + cond {A = ℕ} (free i) 1 0)
          ∙ sym (count-more (is_free image) segno);
    }

pub returns : goal.returns
returns c = λ image of table.
    let all : c.loop-segno.segno ≡ c.layout-l.result.segments = omega arith in
    let own = c.layout-l.ensures.value ∙ own_layout image c.args.m.now of in
    c.loop-segno.invariant.count image of table ∙ ap (λ n. count_below n (is_free image)) (all ∙ ap (λ (l : Layout). l.segments) own)
