use Rattle.std.proofs.Common.{◌<◌, All, sym, subst, ◌∙◌}
use Rattle.f2_bytes.specs.NodeAddressTable.{nid_limit}
use Rattle.f2_view.specs.Mounted.{Mounted, layout_in, IsMountOf}
use Rattle.f2_gather.proofs.Gatherings.{data_is, nodes_are, blocks_are, blocks_rise}
use Rattle.f2_gather.proofs.gathering.gather.Goals as goal

pub returns-clause-data : goal.returns-clause-data
returns-clause-data g c = λ image told.
    let up = c.in_ok-data.ensures in
    let of = c.requires.of_image image told in
    data_is image c.args.m.now up.kept (c.requires.checked image told) of c.args.addrs.now c.requires.main (c.requires.valid image told) c.in_ok-data.field-0.data.items (up.data image told of)

pub returns-clause-blocks : goal.returns-clause-blocks
returns-clause-blocks g c = λ image told. blocks_are image c.args.addrs.now c.in_ok-data.field-0.data.items (c.in_ok-data.ensures.data image told (c.requires.of_image image told))

pub returns-clause-nodes : goal.returns-clause-nodes
returns-clause-nodes g c = λ image told.
    let up = c.in_ok-data.ensures in
    let of = c.requires.of_image image told in
    let found = c.deref.ensures.value ∙ up.data image told of in
    nodes_are image c.args.m.now up.kept (c.requires.checked image told) of c.args.addrs.now c.requires.main (c.requires.valid image told)
    c.deref.result.now c.in_ok-data.field-0.nodes.items c.put_in_order.new.numbers.items found (up.nodes image told of) c.put_in_order.ensures.rises
    (λ n.
    c.put_in_order.ensures.same n
    ∙ c.in_ok-push_coverings.ensures.files image (up.reads.told ∙ told) (subst (IsMountOf image) (sym up.mount) of) (blocks_rise image c.args.addrs.now c.deref.result.now c.requires.ascending found) n)

pub returns-clause-below : goal.returns-clause-below
returns-clause-below g c =
    let up = c.in_ok-data.ensures in
    c.put_in_order.ensures.below (nid_limit (layout_in c.args.m.now))
    (subst (λ (m : Mounted). All (λ n. n < nid_limit (layout_in m)) c.in_ok-data.field-0.nodes.items → All (λ n. n < nid_limit (layout_in m)) c.push_coverings.new.into.items) up.mount
    c.in_ok-push_coverings.ensures.below up.below)
