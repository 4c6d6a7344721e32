use Rattle.std.proofs.Common.{◌≡◌, ap, ◌∙◌, arith}
use Rattle.std.specs.Prelude.{unwrap_or}
use Rattle.f2_bytes.specs.Checkpoint.{Log}
use Rattle.f2_bytes.specs.Summary.{log_of}
use Rattle.f2_bytes.specs.Check.{same}
use Rattle.f2_survey.specs.Parts.{part_in}
use Rattle.f2_areas.proofs.LogFacts.{own-log}
use Rattle.f2_areas.proofs.LogParts.{shares-number, shares-logs, shares-one, share-at}
use Rattle.f2_areas.proofs.Walking.{walk-none, walk-more, walk-row, walk-all}
use Rattle.f2_pack.specs.Logs.{log_of as held_log}
use Rattle.f2_view.proofs.TableReadings.{own_head}
use Rattle.f2_areas.proofs.rule_8_logs.share_defects.Goals as goal

pub loop-t-init : goal.loop-t-init
loop-t-init c = λ image of. walk-none (part_in image 8 1) c.new-c.result (c.new-c.ensures.part ∙ shares-number image) c.new-c.ensures.none

pub loop-t-preserved : goal.loop-t-preserved
loop-t-preserved c = λ image of.
    let t = c.loop-t.t in
    let m = c.args.m.now in
    let at = ap (λ (l : Log). l.segment) (own-log m t (held_log c.log-at.result) c.log-at.ensures image of) in
    let first = c.first_log-first.ensures ∙ (λ i. unwrap_or (log_of (own_head image m of i) (at i)) 0) in
    walk-row (part_in image 8 1) c.same.new.self t 1 (shares-one image t)
    (walk-more (part_in image 8 1) c.loop-t.c c.same.new.self t 0 (same c.first_log-first.result t) c.same.ensures.part c.in_ok-same.ensures.compares
    (share-at image t c.first_log-first.result first) (c.loop-t.invariant image of))

pub returns : goal.returns
returns c = λ image of.
    let all : c.loop-t.t ≡ 6 = omega arith in
    walk-all (part_in image 8 1) c.loop-t.c c.loop-t.t (all ∙ shares-logs image) (c.loop-t.invariant image of)
