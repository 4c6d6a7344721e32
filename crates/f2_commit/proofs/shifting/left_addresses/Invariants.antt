use Rattle.std.proofs.Common.{◌≡◌, ◌++◌, take}
use Rattle.f2_gather.specs.Gathering.{addresses_of}
use Rattle.f2_commit.specs.Shifting.{node_addresses}
use Rattle.f2_commit.proofs.shifting.left_addresses.Given as goal

-- the addresses of the first blocks
abbrev pub invariant-loop-b : goal.invariant-loop-b
invariant-loop-b l = l.left.items ≡ addresses_of (take l.b-index l.moved)

-- those of all blocks, and of the first nodes
abbrev pub invariant-loop-entry : goal.invariant-loop-entry
invariant-loop-entry l = l.left.items ≡ addresses_of l.moved ++ node_addresses (take l.entry-index l.nodes)
