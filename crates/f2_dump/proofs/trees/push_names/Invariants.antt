use Rattle.std.proofs.Common.{◌≡◌, ◌++◌, ◌≤◌, length, map, reverse, drop}
use Rattle.f2_view.specs.Directories.{item_of}
use Rattle.f2_dump.specs.Stacks.{pending_at}
use Rattle.f2_dump.proofs.trees.push_names.Given as goal

-- the names so far are those from k on
abbrev pub invariant-loop-k : goal.invariant-loop-k
invariant-loop-k l = record {
  names : l.stack.items ≡ l.fn.stack.items ++ reverse (map (λ n. pending_at l.level l.left (item_of n)) (drop l.k l.names));
  inside : l.k ≤ length l.names;
}

abbrev pub decreases-loop-k : goal.decreases-loop-k
decreases-loop-k l = l.k
