use Rattle.std.proofs.Common.{◌∙◌, Some, ap, arith}
use Rattle.f2_bytes.specs.Bytes.{Image}
use Rattle.f2_disk.specs.Disk.{Lands}
use Rattle.f2_disk.specs.Memory.{zero_block}
use Rattle.f2_disk.proofs.Runs.{then_run, weaker}
use Rattle.f2_pack.specs.Written.{written}
use Rattle.f2_change.specs.CommitSteps.{SameBut, IsBetween, cleared, filled}
use Rattle.f2_change.specs.Writes.{head_address, filling}
use Rattle.f2_change.proofs.CommitSteps.{cleared_is, committed_is, in_clearing, in_filling, in_sealing}
use Rattle.f2_change.proofs.WriteRuns.{ok_map}
use Rattle.f2_change.proofs.committing.write_all.Goals as goal

pub returns-in_err-clear-clause-any_moment : goal.returns-in_err-clear-clause-any_moment
returns-in_err-clear-clause-any_moment g c = λ calm image told.
    let r = c.args.r.now in
    weaker (Lands (head_address r) zero_block image) (IsBetween image r) (in_clearing r image) (c.clear.ensures.any_moment calm image told)

pub returns-in_err-fill-clause-either : goal.returns-in_err-fill-clause-either
returns-in_err-fill-clause-either g c = λ image told.
    let r = c.args.r.now in
    let now = c.fill.ensures.either (cleared r image) (c.in_ok-clear.ensures.done image told ∙ ap (λ (i : Image). Some i) (cleared_is r image)) in
    (now.0, now.1, in_filling r image now.0 now.2)

pub returns-in_err-fill-clause-any_moment : goal.returns-in_err-fill-clause-any_moment
returns-in_err-fill-clause-any_moment g c = λ calm image told.
    let r = c.args.r.now in
    let first = weaker (Lands (head_address r) zero_block image) (IsBetween image r) (in_clearing r image) (c.clear.ensures.any_moment calm image told) in
    let then = c.in_ok-clear.ensures.done image told ∙ ap (λ (i : Image). Some i) (cleared_is r image) in
    then_run c.clear.ensures.goes.later first
    (weaker (SameBut (filling r) (cleared r image)) (IsBetween image r) (in_filling r image) (c.fill.ensures.any_moment c.in_ok-clear.ensures.durable (cleared r image) then))

pub returns-clause-done : goal.returns-clause-done
returns-clause-done g c =
    let r = c.args.r.now in
    ok_map c.write_new_head.result (λ done image told.
    let first = c.in_ok-clear.ensures.done image told ∙ ap (λ (i : Image). Some i) (cleared_is r image) in
    done (filled r image) (c.in_ok-fill.ensures.done (cleared r image) first) ∙ ap (λ (i : Image). Some i) (committed_is r image)) c.write_new_head.ensures.done

pub returns-clause-either : goal.returns-clause-either
returns-clause-either g c = λ image told.
    let r = c.args.r.now in
    let first = c.in_ok-clear.ensures.done image told ∙ ap (λ (i : Image). Some i) (cleared_is r image) in
    let now = c.write_new_head.ensures.either (filled r image) (c.in_ok-fill.ensures.done (cleared r image) first) in
    (now.0, now.1, in_sealing r image now.0 now.2)

pub returns-clause-any_moment : goal.returns-clause-any_moment
returns-clause-any_moment g c = λ calm image told.
    let r = c.args.r.now in
    let clearing = weaker (Lands (head_address r) zero_block image) (IsBetween image r) (in_clearing r image) (c.clear.ensures.any_moment calm image told) in
    let first = c.in_ok-clear.ensures.done image told ∙ ap (λ (i : Image). Some i) (cleared_is r image) in
    let filling_too = then_run c.clear.ensures.goes.later clearing
    (weaker (SameBut (filling r) (cleared r image)) (IsBetween image r) (in_filling r image) (c.fill.ensures.any_moment c.in_ok-clear.ensures.durable (cleared r image) first)) in
    then_run (omega (arith, c.clear.ensures.goes.later, c.fill.ensures.goes.later)) filling_too
    (weaker (Lands (head_address r) (written r.pack 0) (filled r image)) (IsBetween image r) (in_sealing r image)
    (c.write_new_head.ensures.any_moment c.in_ok-fill.ensures.durable (filled r image) (c.in_ok-fill.ensures.done (cleared r image) first)))
