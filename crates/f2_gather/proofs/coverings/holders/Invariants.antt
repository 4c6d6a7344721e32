use Rattle.std.proofs.Common.{◌≡◌, take}
use Rattle.f2_gather.specs.Gathering.{holders_of}
use Rattle.f2_gather.proofs.coverings.holders.Given as goal

-- the nodes that hold the addresses of the first blocks
abbrev pub invariant-loop-b : goal.invariant-loop-b
invariant-loop-b l = l.nids.items ≡ holders_of (take l.b-index l.blocks)
