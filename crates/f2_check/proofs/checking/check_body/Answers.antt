use Rattle.std.proofs.Common.{◌∙◌, arith}
use Rattle.std.proofs.lemmas.Result.{IfOk-weaker}
use Rattle.f2_bytes.specs.Check.{defects}
use Rattle.f2_check.proofs.CleanImages.{can_read, clean_body}
use Rattle.f2_check.proofs.Deciding.{meets_none, meets_more, no_defects, verdict_fails, verdict_next, can_count}
use Rattle.f2_check.proofs.checking.check_body.Goals as goal

pub returns-then-not-is_empty-clause-verdict : goal.returns-then-not-is_empty-clause-verdict
returns-then-not-is_empty-clause-verdict g c = λ image told of.
    let collects = c.in_ok-found.ensures.finds image told of in
    let few = can_count _ image c.args.m.now (g.met.D.Disk.whole c.args.d.now image told) c.layout.ensures.kept of 2 in
    verdict_fails image 2 2 c.in_ok-found.found c.is_empty.result c.verdict.result (omega arith) (omega arith) (meets_none image 2) few collects
    (c.is_empty.ensures (defects image 2) collects) c.if-not-is_empty.true c.verdict.ensures

pub returns-then-not-is_empty-clause-clean : goal.returns-then-not-is_empty-clause-clean
returns-then-not-is_empty-clause-clean g c = λ image told of.
    clean_body image c.verdict.result (can_read image c.args.m.now c.layout.ensures.kept of _ (g.met.D.Disk.whole c.args.d.now image told) c.requires.lies) (returns-then-not-is_empty-clause-verdict g c image told of)

pub returns-clause-verdict : goal.returns-clause-verdict
returns-clause-verdict g c =
    IfOk-weaker c.check_nodes.result _ _
    (λ v later image told of.
    let collects = c.in_ok-found.ensures.finds image told of in
    let none = no_defects c.in_ok-found.found (defects image 2) c.is_empty.result (c.is_empty.ensures (defects image 2) collects) c.if-not-is_empty.false in
    verdict_next image 2 v (omega arith) none (later image (c.in_ok-found.ensures.reads.told ∙ told) of (meets_more image 2 2 (meets_none image 2) none)))
    c.check_nodes.ensures.verdict

pub returns-clause-clean : goal.returns-clause-clean
returns-clause-clean g c =
    IfOk-weaker c.check_nodes.result _ _
    (λ v says image told of. clean_body image v (can_read image c.args.m.now c.layout.ensures.kept of _ (g.met.D.Disk.whole c.args.d.now image told) c.requires.lies) (says image told of))
    (returns-clause-verdict g c)
