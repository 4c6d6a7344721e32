use Rattle.std.proofs.Common.{◌≡◌, ◌∙◌, ℕ, Some, ap, sym, subst, arith}
use Rattle.f2_bytes.specs.NodeAddressTable.{nid_limit, nat, image_nat_entry}
use Rattle.f2_dump.proofs.Nodes.{none_after, none_before, node_there, layout_same}
use Rattle.f2_dump.proofs.tables.next_node.Goals as goal

pub returns-in-Some-clause-none : goal.returns-in-Some-clause-none
returns-in-Some-clause-none g c = λ image told of nid low high.
    let next = sym c.in-Some.is ∙ c.in_ok-nid.ensures.next image told of in
    none_before image c.args.from c.in-Some.nid next nid low (omega (arith, high, c.min.ensures))

pub returns-in-Some-clause-node : goal.returns-in-Some-clause-node
returns-in-Some-clause-node g c = λ image told of below.
    let next = sym c.in-Some.is ∙ c.in_ok-nid.ensures.next image told of in
    let same : c.in-Some.nid ≡ c.min.result = omega (arith, below, c.min.ensures) in
    subst (λ (n : ℕ). nat image n ≡ Some (image_nat_entry image n)) same (node_there image c.args.from c.in-Some.nid next)

pub returns-in-None-clause-none : goal.returns-in-None-clause-none
returns-in-None-clause-none g c = λ image told of nid low high.
    let next = sym c.in-None.is ∙ c.in_ok-nid.ensures.next image told of in
    let limit = ap nid_limit (layout_same image c.args.m.now of) in
    none_after image c.args.from next nid low (omega (arith, high, limit, c.requires.limit))
