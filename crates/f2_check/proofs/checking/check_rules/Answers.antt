use Rattle.std.proofs.Common.{◌≡◌, ℕ, sym, ◌∙◌, subst, arith}
use Rattle.f2_bytes.specs.Bytes.{Image}
use Rattle.f2_bytes.specs.Check.{defects}
use Rattle.f2_check.proofs.Deciding.{MeetsFrom, meets_more, no_defects, verdict_fails, verdict_clean, can_count}
use Rattle.f2_disk.proofs.Runs.{reads_then, goes_then}
use Rattle.f2_survey.specs.Parts.{MeetsBefore}
use Rattle.f2_view.specs.Mounted.{IsMountOf}
use Rattle.f2_check.proofs.checking.check_rules.Goals as goal

late : (image : Image) (rule : ℕ) → MeetsBefore image rule → MeetsFrom image 4 rule
late image rule met = λ r low high. met r (omega (arith, low)) high

pub returns-then-not-is_empty-clause-verdict : goal.returns-then-not-is_empty-clause-verdict
returns-then-not-is_empty-clause-verdict g c = λ image told of before work.
    let so_far = c.loop-rule.invariant in
    let rule = c.loop-rule.rule in
    let met = so_far.met image told of before work in
    let now = subst (IsMountOf image) (sym so_far.mount) of in
    let collects = c.in_ok-found.ensures.decides image (so_far.reads.told ∙ told) now met work in
    let few = can_count _ image c.args.m.now (g.met.D.Disk.whole c.args.d.now image told) c.layout.ensures.kept of rule in
    verdict_fails image 4 rule c.in_ok-found.found c.is_empty.result c.verdict.result (omega arith) (omega arith) (late image rule met) few collects
    (c.is_empty.ensures (defects image rule) collects) c.if-not-is_empty.true c.verdict.ensures

pub loop-rule-preserved : goal.loop-rule-preserved
loop-rule-preserved g c =
    let so_far = c.loop-rule.invariant in
    let rule = c.loop-rule.rule in
    record {
      mount = c.in_ok-found.ensures.mount ∙ so_far.mount;
      reads = reads_then so_far.goes.later so_far.reads c.in_ok-found.ensures.reads;
      goes = goes_then so_far.goes c.in_ok-found.ensures.goes;
      met = λ image told of before work.
          let met = so_far.met image told of before work in
          let collects = c.in_ok-found.ensures.decides image (so_far.reads.told ∙ told) (subst (IsMountOf image) (sym so_far.mount) of) met work in
          meets_more image 2 rule met (no_defects c.in_ok-found.found (defects image rule) c.is_empty.result (c.is_empty.ensures (defects image rule) collects) c.if-not-is_empty.false);
    }

pub returns-clause-verdict : goal.returns-clause-verdict
returns-clause-verdict g c = λ image told of before work.
    let all : c.loop-rule.rule ≡ 13 = omega arith in
    verdict_clean image 4 (subst (MeetsFrom image 4) all (late image c.loop-rule.rule (c.loop-rule.invariant.met image told of before work)))

pub returns-in_err-found-clause-reads : goal.returns-in_err-found-clause-reads
returns-in_err-found-clause-reads g c = reads_then c.loop-rule.invariant.goes.later c.loop-rule.invariant.reads c.in_err-found.ensures.reads

pub returns-in_err-found-clause-goes : goal.returns-in_err-found-clause-goes
returns-in_err-found-clause-goes g c = goes_then c.loop-rule.invariant.goes c.in_err-found.ensures.goes

pub returns-then-not-is_empty-clause-reads : goal.returns-then-not-is_empty-clause-reads
returns-then-not-is_empty-clause-reads g c = reads_then c.loop-rule.invariant.goes.later c.loop-rule.invariant.reads c.in_ok-found.ensures.reads

pub returns-then-not-is_empty-clause-goes : goal.returns-then-not-is_empty-clause-goes
returns-then-not-is_empty-clause-goes g c = goes_then c.loop-rule.invariant.goes c.in_ok-found.ensures.goes
