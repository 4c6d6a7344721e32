use Rattle.std.proofs.Common.{◌∙◌, Bool, ap, map, rules}
use Rattle.std.specs.Cmp.Lexicographic.{nat_list_cmp_total}
use Rattle.std.proofs.lemmas.List.Sorted.{answers_always, ranks_by}
use Rattle.std.proofs.lemmas.Result.{on_ok_weaker}
use Rattle.f2_view.specs.Directories.{item_of}
use Rattle.f2_view.specs.declared.directories.Named.{Named}
use Rattle.f2_dump.specs.Trees.{is_before}
use Rattle.f2_dump.proofs.Ordered.{is_in_order, map_in_order}
use Rattle.f2_dump.proofs.directories.put_in_order.Goals as goal

abbrev less : Named → Named → Bool
less x y = is_before (item_of x) (item_of y)

pub returns : goal.returns
returns c =
    let order = ranks_by nat_list_cmp_total (λ (n : Named). n.name) in
    let by = answers_always _ _ _ (λ f a r f' k. search rules) in
    let stable = c.sort_by.ensures.stable less order by in
    on_ok_weaker c.sort_by.result (λ sorted.
    ap (map item_of) (is_in_order less order c.args.names.now.items c.sort_by.new.self.items (sorted less order by) stable)
    ∙ map_in_order item_of is_before c.args.names.now.items) c.sort_by.ensures.sorted
