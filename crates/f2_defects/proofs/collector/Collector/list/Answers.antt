use Rattle.std.proofs.Common.{◌≡◌, ◌<◌, ◌≤◌, ◌++◌, ◌∷◌, [], length, map, take, ap, sym, ◌∙◌, arith, length-append}
use Rattle.std.proofs.lemmas.List.{map-append, length-map}
use Rattle.f2_defects.specs.Collected.{most_listed, defect_in}
use Rattle.f2_defects.proofs.Collecting.{take-all, take-full}
use Rattle.f2_defects.proofs.collector.Collector.list.Goals as goal

pub returns-in_ok-push-clause-lists : goal.returns-in_ok-push-clause-lists
returns-in_ok-push-clause-lists c = λ low.
    let view : map defect_in c.self.inside.kept.items ≡ c.args.self.now.kept = ap (λ v. v.kept) c.self.view_is in
    let short : length c.self.inside.kept.items < 64 = omega (arith, c.len.ensures) in
    let room : length (map defect_in c.self.inside.kept.items ++ defect_in c.args.defect ∷ []) ≤ 64 = simp (length-append, length-map) (omega arith) in
    ap (map defect_in) c.in_ok-push.ensures.items
    ∙ map-append defect_in c.self.inside.kept.items (c.args.defect ∷ [])
    ∙ sym (take-all most_listed (map defect_in c.self.inside.kept.items ++ defect_in c.args.defect ∷ []) room)
    ∙ ap (λ l. take most_listed (l ++ defect_in c.args.defect ∷ [])) view

pub returns-else-len-lt-MOST-clause-lists : goal.returns-else-len-lt-MOST-clause-lists
returns-else-len-lt-MOST-clause-lists c = λ low.
    let view : map defect_in c.self.inside.kept.items ≡ c.args.self.now.kept = ap (λ v. v.kept) c.self.view_is in
    let long = ap length (sym view) ∙ length-map c.self.inside.kept.items defect_in in
    sym (take-full most_listed c.args.self.now.kept (defect_in c.args.defect ∷ []) (omega (arith, c.len.ensures, long)))
