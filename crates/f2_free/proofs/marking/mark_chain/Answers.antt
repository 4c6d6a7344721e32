use Rattle.std.proofs.Common.{◌≡◌, ◌==◌, ◌||◌, false, Some, sym, ◌∙◌}
use Rattle.std.specs.List.{list_any}
use Rattle.std.specs.Option.{option_map_or}
use Rattle.f2_free.proofs.MarkSteps.{marks-same, marks-then}
use Rattle.f2_free.proofs.marking.mark_chain.Goals as goal

pub returns-in-Some : goal.returns-in-Some
returns-in-Some c =
    let stop : Some c.in-Some.address ≡ c.args.c.now.stop = sym c.in-Some.is ∙ c.stop.ensures in
    marks-same (λ a. list_any (λ x. x == a) c.nodes.result.now || (c.in-Some.address == a)) (λ a. list_any (λ x. x == a) c.args.c.now.nodes || option_map_or (λ x. x == a) c.args.c.now.stop false)
    (λ a i. list_any (λ x. x == a) (c.nodes.ensures i) || option_map_or (λ x. x == a) (stop i) false)
    (marks-then (λ a. list_any (λ x. x == a) c.nodes.result.now) (λ a. c.in-Some.address == a) c.mark_addresses.ensures c.mark.ensures)
