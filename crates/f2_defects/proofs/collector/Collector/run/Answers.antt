use Rattle.std.proofs.Common.{◌+◌, ◌-◌, ◌^◌, min, ap, ◌∙◌}
use Rattle.f2_defects.proofs.Runs.{runs_rest}
use Rattle.f2_defects.proofs.collector.Collector.run.Goals as goal

pub returns-clause-runs : goal.returns-clause-runs
returns-clause-runs c =
    let old = c.args.self.now in
    let mid = c.list_run.new.self in
    let b = c.in_ok-reached.reached in
    let said = c.in_ok-reached.ensures in
    let counted = c.saturating_add-self-inside.ensures
    ∙ (λ i. min (ap (λ v. v.count) c.self.view_is i + c.failing-more.ensures old.part c.args.a b i) (2 ^ 64 - 1)) in
    runs_rest old mid _ c.args.a c.args.from c.args.to b c.args.found c.args.wanted said.within.0 said.within.1 said.full
    (ap (λ v. v.kept) c.self.view_is) counted said.runs
