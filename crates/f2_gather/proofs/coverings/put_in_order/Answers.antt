use Rattle.std.proofs.Common.{◌≡◌, ℕ, ◌<◌, ◌==◌, List, All, sym, ap, subst, ◌∙◌}
use Rattle.std.specs.List.{dedup}
use Rattle.std.specs.List.Sorted.{IsStrictlyIncreasing}
use Rattle.std.proofs.lemmas.List.Filters.{dedup_is, All-dedup}
use Rattle.std.proofs.lemmas.List.Sorted.{All-permutation, list_any-IsPermutation}
use Rattle.std.proofs.lemmas.Map.Keys.{IsStrictlyIncreasing-dedup}
use Rattle.f2_bytes.specs.Defragment.{is_among}
use Rattle.f2_gather.proofs.Ascending.{among-dedup}
use Rattle.f2_gather.proofs.coverings.put_in_order.Goals as goal

left : (c : goal.After-dedup) → c.dedup.new.self.items ≡ dedup (λ x y. x == y) c.sort_unstable.new.self.items
left c = dedup_is (λ x y. x == y) c.sort_unstable.new.self.items c.dedup.new.self.items c.dedup.ensures.filtered

pub returns-clause-rises : goal.returns-clause-rises
returns-clause-rises c = subst (λ (l : List ℕ). IsStrictlyIncreasing l) (sym (left c)) (IsStrictlyIncreasing-dedup c.sort_unstable.new.self.items c.sort_unstable.ensures.sorted)

pub returns-clause-same : goal.returns-clause-same
returns-clause-same c = λ n.
    ap (λ l. is_among l n) (left c)
    ∙ among-dedup c.sort_unstable.new.self.items n
    ∙ sym (list_any-IsPermutation (λ y. y == n) c.args.numbers.now.items c.sort_unstable.new.self.items c.sort_unstable.ensures.permutation)

pub returns-clause-below : goal.returns-clause-below
returns-clause-below c = λ limit all.
    subst (λ (l : List ℕ). All (λ n. n < limit) l) (sym (left c))
    (All-dedup (λ x y. x == y) (λ n. n < limit) c.sort_unstable.new.self.items
    (All-permutation (λ n. n < limit) c.args.numbers.now.items c.sort_unstable.new.self.items c.sort_unstable.ensures.permutation all))
