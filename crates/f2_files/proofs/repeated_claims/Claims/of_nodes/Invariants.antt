use Rattle.std.proofs.Common.{◌≡◌}
use Rattle.f2_bytes.specs.Bytes.{Image}
use Rattle.f2_survey.specs.Known.{IsKnown}
use Rattle.f2_files.specs.Repeats.{node_addresses}
use Rattle.f2_files.proofs.repeated_claims.Claims.of_nodes.Given as goal

-- the addresses of the nodes so far
abbrev pub invariant-loop-nid : goal.invariant-loop-nid
invariant-loop-nid l = (image : Image) → IsKnown image l.nodes → l.claims.addresses.items ≡ node_addresses image l.nid
