use Rattle.std.proofs.Common.{sym, ◌∙◌, subst, arith}
use Rattle.std.proofs.lemmas.Result.{IfOk-weaker}
use Rattle.f2_bytes.specs.Check.{defects}
use Rattle.f2_check.proofs.Deciding.{meets_none, meets_more, no_defects, verdict_fails, verdict_next, can_count}
use Rattle.f2_disk.proofs.Runs.{reads_then, goes_then}
use Rattle.f2_view.specs.Mounted.{IsMountOf}
use Rattle.f2_check.proofs.checking.check_nodes.Goals as goal

pub returns-then-not-is_empty-clause-verdict : goal.returns-then-not-is_empty-clause-verdict
returns-then-not-is_empty-clause-verdict g c = λ image told of before.
    let collects = (c.in_ok-found.ensures.begins image told of).found in
    let few = can_count _ image c.args.m.now (g.met.D.Disk.whole c.args.d.now image told) c.layout.ensures.kept of 3 in
    verdict_fails image 3 3 c.in_ok-found.found c.is_empty.result c.verdict.result (omega arith) (omega arith) (meets_none image 3) few collects
    (c.is_empty.ensures (defects image 3) collects) c.if-not-is_empty.true c.verdict.ensures

pub returns-clause-verdict : goal.returns-clause-verdict
returns-clause-verdict g c =
    IfOk-weaker c.check_rules.result _ _
    (λ v later image told of before.
    let begun = c.in_ok-found.ensures.begins image told of in
    let none = no_defects c.in_ok-found.found (defects image 3) c.is_empty.result (c.is_empty.ensures (defects image 3) begun.found) c.if-not-is_empty.false in
    verdict_next image 3 v (omega arith) none
    (later image (c.in_ok-found.ensures.reads.told ∙ told) (subst (IsMountOf image) (sym c.in_ok-found.ensures.mount) of) (meets_more image 2 3 before none) (begun.next none)))
    c.check_rules.ensures.verdict

pub returns-clause-reads : goal.returns-clause-reads
returns-clause-reads g c = reads_then c.in_ok-found.ensures.goes.later c.in_ok-found.ensures.reads c.check_rules.ensures.reads

pub returns-clause-goes : goal.returns-clause-goes
returns-clause-goes g c = goes_then c.in_ok-found.ensures.goes c.check_rules.ensures.goes
