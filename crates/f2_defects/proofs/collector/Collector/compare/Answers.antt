use Rattle.std.proofs.Common.{◌≡◌, ◌+◌, ◌-◌, ◌^◌, ◌++◌, ◌∷◌, [], take, min, ap, ◌∙◌}
use Rattle.f2_defects.specs.Collected.{most_listed}
use Rattle.f2_defects.proofs.Collecting.{length-kept, collects_one}
use Rattle.f2_defects.proofs.collector.Collector.compare.Goals as goal

pub returns-clause-compares : goal.returns-clause-compares
returns-clause-compares c = λ defects of.
    let old = c.args.self.now in
    let part : c.list.inside.part ≡ old.part = ap (λ v. v.part) c.list.view_is in
    let listed = c.in_ok-list.ensures.lists (length-kept old defects of) in
    let kept = ap (λ v. v.kept) c.self.view_is ∙ listed
    ∙ ap (λ p. take most_listed (old.kept ++ record { part = p; a = c.args.a; b = c.args.b; found = c.args.found; wanted = c.args.wanted } ∷ [])) part in
    let before : c.self.inside.count ≡ old.count = ap (λ v. v.count) c.self.view_is ∙ c.in_ok-list.ensures.count in
    let count = c.saturating_add-self-inside.ensures ∙ ap (λ n. min (n + 1) (2 ^ 64 - 1)) before in
    rw c.if-not-fails.false (collects_one old _ defects _ of kept count)
