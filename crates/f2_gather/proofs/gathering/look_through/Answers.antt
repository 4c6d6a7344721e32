use Rattle.std.proofs.Common.{ℕ, ◌+◌, ◌++◌, ◌<◌, drop, All, sym, ap, subst, ◌∙◌, arith}
use Rattle.std.specs.List.Sorted.{IsStrictlyIncreasing}
use Rattle.std.proofs.lemmas.List.{drop_more}
use Rattle.std.proofs.lemmas.List.{append-nil, drop_all}
use Rattle.f2_bytes.specs.declared.layout.Layout.{Layout}
use Rattle.f2_bytes.specs.NodeAddressTable.{nid_limit}
use Rattle.f2_disk.proofs.Runs.{reads_then, goes_then}
use Rattle.f2_view.specs.Mounted.{IsMountOf}
use Rattle.f2_gather.specs.Gathering.{AllMain, data_at, node_at, addresses_of}
use Rattle.f2_gather.proofs.GatheredSteps.{layout_is, grows}
use Rattle.f2_gather.proofs.gathering.look_through.Goals as goal

pub loop-address-preserved : goal.loop-address-preserved
loop-address-preserved g c =
    let so_far = c.loop-address.invariant in
    let turned = c.in_ok-turn_to.ensures in
    let looked = c.in_ok-look_at.ensures in
    let own = c.layout-l.ensures.value in
    record {
      mount = turned.mount ∙ so_far.mount;
      reads = reads_then so_far.goes.later so_far.reads turned.reads;
      goes = goes_then so_far.goes turned.goes;
      shows = λ image told of held. turned.shows image (so_far.reads.told ∙ told) (subst (IsMountOf image) (sym so_far.mount) of) (so_far.shows image told of held);
      data_found = λ image told of held.
          grows (data_at image) c.args.into.now.data.items c.loop-address.into.data.items c.look_at.new.into.data.items c.args.addrs.now c.loop-address.address-index _ c.loop-address-test.true
          (so_far.data_found image told of held)
          (looked.data image (own ∙ layout_is image c.args.m.now of)
          (turned.shows image (so_far.reads.told ∙ told) (subst (IsMountOf image) (sym so_far.mount) of) (so_far.shows image told of held)));
      nodes = λ image told of held.
          grows (node_at image) c.args.into.now.nodes.items c.loop-address.into.nodes.items c.look_at.new.into.nodes.items c.args.addrs.now c.loop-address.address-index _ c.loop-address-test.true
          (so_far.nodes image told of held)
          (looked.nodes image (own ∙ layout_is image c.args.m.now of) (c.nid_limit-limit.ensures ∙ ap (λ (l : Layout). nid_limit l) (sym own))
          (turned.shows image (so_far.reads.told ∙ told) (subst (IsMountOf image) (sym so_far.mount) of) (so_far.shows image told of held)));
      rises = λ rising.
          looked.rises (drop (c.loop-address.address-index + 1) c.args.addrs.now)
          (subst (λ l. IsStrictlyIncreasing (addresses_of c.loop-address.into.data.items ++ l)) (drop_more c.args.addrs.now c.loop-address.address-index _ c.loop-address-test.true) (so_far.rises rising));
      few_data = let before = so_far.few_data in let one = looked.few_data in omega (arith, before, one);
      few_nodes = let before = so_far.few_nodes in let one = looked.few_nodes in omega (arith, before, one);
      main = λ all.
          subst (λ (l : Layout). AllMain l c.loop-address.into.data.items → AllMain l c.look_at.new.into.data.items) own looked.main (so_far.main all);
      below = λ all.
          subst (λ (n : ℕ). All (λ x. x < n) c.loop-address.into.nodes.items → All (λ x. x < n) c.look_at.new.into.nodes.items) c.nid_limit-limit.ensures looked.below (so_far.below all);
    }

pub returns-clause-rises : goal.returns-clause-rises
returns-clause-rises g c = λ rising.
    subst IsStrictlyIncreasing
    (ap (λ l. addresses_of c.loop-address.into.data.items ++ l) (drop_all c.loop-address.address-index c.args.addrs.now (omega arith)) ∙ append-nil (addresses_of c.loop-address.into.data.items)) (c.loop-address.invariant.rises rising)
