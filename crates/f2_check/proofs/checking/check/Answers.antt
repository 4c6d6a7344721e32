use Rattle.std.proofs.Common.{◌∙◌, arith}
use Rattle.std.proofs.lemmas.Result.{IfOk-weaker}
use Rattle.f2_bytes.specs.Check.{defects}
use Rattle.f2_check.proofs.CleanImages.{can_read, clean_checked}
use Rattle.f2_check.proofs.Deciding.{meets_none, no_defects, verdict_fails, verdict_next, can_count}
use Rattle.f2_check.proofs.checking.check.Goals as goal

pub returns-then-not-is_empty-clause-verdict : goal.returns-then-not-is_empty-clause-verdict
returns-then-not-is_empty-clause-verdict g c = λ image told of.
    let collects = c.in_ok-found.ensures.finds image told of in
    let few = can_count _ image c.args.m.now (g.met.D.Disk.whole c.args.d.now image told) c.layout.ensures.kept of 1 in
    verdict_fails image 1 1 c.in_ok-found.found c.is_empty.result c.verdict.result (omega arith) (omega arith) (meets_none image 1) few collects
    (c.is_empty.ensures (defects image 1) collects) c.if-not-is_empty.true c.verdict.ensures

pub returns-then-not-is_empty-clause-clean : goal.returns-then-not-is_empty-clause-clean
returns-then-not-is_empty-clause-clean g c = λ image told of.
    clean_checked image c.verdict.result (can_read image c.args.m.now c.layout.ensures.kept of _ (g.met.D.Disk.whole c.args.d.now image told) c.requires.lies) (returns-then-not-is_empty-clause-verdict g c image told of)

pub returns-clause-verdict : goal.returns-clause-verdict
returns-clause-verdict g c =
    IfOk-weaker c.check_body.result _ _
    (λ v body image told of.
    let collects = c.in_ok-found.ensures.finds image told of in
    let none = no_defects c.in_ok-found.found (defects image 1) c.is_empty.result (c.is_empty.ensures (defects image 1) collects) c.if-not-is_empty.false in
    verdict_next image 1 v (omega arith) none (body image (c.in_ok-found.ensures.reads.told ∙ told) of))
    c.check_body.ensures.verdict

pub returns-clause-clean : goal.returns-clause-clean
returns-clause-clean g c =
    IfOk-weaker c.check_body.result _ _
    (λ v says image told of. clean_checked image v (can_read image c.args.m.now c.layout.ensures.kept of _ (g.met.D.Disk.whole c.args.d.now image told) c.requires.lies) (says image told of))
    (returns-clause-verdict g c)
