use Rattle.std.proofs.Common.{◌≡◌, ℕ, ◌<◌, length}
use Rattle.f2_items.specs.Ancestors.{parent_in, AreSettled, IsMarked}
use Rattle.f2_items.proofs.ancestors.own_ancestors.Given as goal

abbrev pub invariant-loop-start : goal.invariant-loop-start
invariant-loop-start l =
    (length l.seen.items ≡ length l.parents) × (length l.settled.items ≡ length l.parents) × (length l.own.items ≡ length l.parents)
    × AreSettled (parent_in l.parents) l.seen.items l.settled.items l.own.items
    × ((i : ℕ) → i < l.start → IsMarked l.settled.items i)
