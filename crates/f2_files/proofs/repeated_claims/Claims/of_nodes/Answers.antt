use Rattle.std.proofs.Common.{◌≡◌, ◌++◌, sym, ap, ◌∙◌, arith}
use Rattle.f2_bytes.specs.Check.{nids}
use Rattle.f2_files.specs.Repeats.{node_addresses}
use Rattle.f2_items.proofs.GrownLists.{optional}
use Rattle.f2_files.proofs.RepeatCounts.{nodes-none, nodes-more, claims-start, entry-address}
use Rattle.f2_files.proofs.repeated_claims.Claims.of_nodes.Goals as goal

pub loop-nid-init : goal.loop-nid-init
loop-nid-init c = λ image known. c.new.ensures.items ∙ sym (nodes-none image)

pub loop-nid-preserved : goal.loop-nid-preserved
loop-nid-preserved c = λ image known.
    c.in_ok-take_node.ensures
    ∙ (λ i. c.loop-nid.invariant image known i ++ optional (entry-address image c.loop-nid.nid c.entry.result (c.entry.ensures image known) i))
    ∙ sym (nodes-more image c.loop-nid.nid)

pub returns : goal.returns
returns c = λ image known.
    let all : c.loop-nid.nid ≡ nids image = omega (arith, c.limit-nid-end.ensures image known) in
    claims-start image c.loop-nid.claims (c.loop-nid.invariant image known ∙ ap (node_addresses image) all)
