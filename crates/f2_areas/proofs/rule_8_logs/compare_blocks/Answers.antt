use Rattle.std.proofs.Common.{◌≡◌, ◌==◌, ◌∙◌, arith}
use Rattle.f2_bytes.specs.Check.{same, digit, where_true}
use Rattle.f2_survey.specs.Parts.{part_in}
use Rattle.f2_pack.specs.Logs.{log_of}
use Rattle.f2_sum.specs.Records.{sit_entry}
use Rattle.f2_areas.proofs.LogParts.{next-blocks, later-blocks, next-at, later-at}
use Rattle.f2_areas.proofs.Walking.{walk-more, walk-row}
use Rattle.f2_areas.proofs.rule_8_logs.compare_blocks.Goals as goal

pub loop-k-preserved : goal.loop-k-preserved
loop-k-preserved c =
    let t = c.args.t in
    let k = c.loop-k.k in
    let at = log_of c.args.at in
    let e = sit_entry c.args.entry.now in
    let marked = c.bit_msb-marked.ensures in
    let later = c.comes_later-is_later.ensures in
    record {
      next = λ image fills so_far.
          walk-more (part_in image 8 3) c.loop-k.next c.compare_free.new.c t k (where_true (k == at.offset) (same (digit c.bit_msb-marked.result) 0))
          c.compare_free.ensures.part c.in_ok-compare_free.ensures.compares
          ((λ i. where_true (k == at.offset) (same (digit (marked i)) 0)) ∙ next-at image t at e fills k)
          (c.loop-k.invariant.next image fills so_far);
      later = λ image fills so_far.
          walk-more (part_in image 8 4) c.loop-k.later c.compare_free-in-loop-k.new.c t k (where_true c.comes_later-is_later.result (same (digit c.bit_msb-marked.result) 0))
          c.compare_free-in-loop-k.ensures.part c.in_ok-compare_free-2.ensures.compares
          ((λ i. where_true (later i) (same (digit (marked i)) 0)) ∙ later-at image t at e fills k)
          (c.loop-k.invariant.later image fills so_far);
    }

pub returns-clause-next : goal.returns-clause-next
returns-clause-next c = λ image fills start.
    let all : c.loop-k.k ≡ 512 = omega arith in
    walk-row (part_in image 8 3) c.loop-k.next c.args.t c.loop-k.k (all ∙ next-blocks image c.args.t) (c.loop-k.invariant.next image fills start)

pub returns-clause-later : goal.returns-clause-later
returns-clause-later c = λ image fills start.
    let all : c.loop-k.k ≡ 512 = omega arith in
    walk-row (part_in image 8 4) c.loop-k.later c.args.t c.loop-k.k (all ∙ later-blocks image c.args.t) (c.loop-k.invariant.later image fills start)
