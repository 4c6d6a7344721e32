use Rattle.std.proofs.Common.{map, ap, ◌∙◌}
use Rattle.f2_free.proofs.FoundPlaces.{off-zero}
use Rattle.f2_free.proofs.rolling.roll_forward.Goals as goal
use Rattle.f2_roll.specs.Chain.{Followed}
use Rattle.f2_sum.specs.Records.{nat_entry}
use Rattle.f2_view.specs.Mounted.{layout_in}

pub returns-clause-found : goal.returns-clause-found
returns-clause-found g c = λ image told of is has.
    let nodes = c.in_ok-nodes.ensures.nodes image told of is (ap (map nat_entry) c.deref.ensures.value ∙ has) in
    c.put_counting.ensures.found image has
    (c.deref-3.ensures.value ∙ nodes)
    (c.deref-4.ensures.value ∙ c.in_ok-counts.ensures.counts image (c.deref-2.ensures.value ∙ nodes))
    (off-zero image (layout_in c.args.m.now) c.args.c.now.nodes c.layout.ensures.kept.in_order (ap (λ (f : Followed). f.nodes) is) c.requires.within.nodes)
