use Rattle.std.proofs.Common.{◌<◌, ℕ, ◌++◌, All, sym, ap, subst, ◌∙◌}
use Rattle.std.proofs.lemmas.List.Elements.{All-append}
use Rattle.f2_bytes.specs.Bytes.{Block}
use Rattle.f2_commit.proofs.ShiftWhole.{sums_below}
use Rattle.f2_commit.proofs.shifting.moved_sums.Goals as goal

pub returns-clause-below : goal.returns-clause-below
returns-clause-below c = λ limit low node_low.
    let one = c.in_ok-push_data_sums.ensures in
    let two = c.in_ok-push_node_sums.ensures in
    let all = two.1 ∙ ap (λ xs. xs ++ two.0) (one.1 ∙ ap (λ xs. xs ++ one.0) c.new-sums.ensures.items) in
    subst (λ ws. All (λ (w : ℕ × Block). w.0 < limit) ws) (sym all)
    (All-append (λ (w : ℕ × Block). w.0 < limit) one.0 two.0 (sums_below c.args.targets.now 0 _ one.0 limit one.2 low) (sums_below c.args.node_targets.now 1 _ two.0 limit two.2 node_low))
