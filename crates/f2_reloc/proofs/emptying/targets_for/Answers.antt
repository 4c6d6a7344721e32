use Rattle.std.proofs.Common.{◌≡◌, ◌<◌, All, sym, subst, ◌∙◌}
use Rattle.f2_bytes.specs.Defragment.{move_targets}
use Rattle.f2_bytes.specs.Superblock.{layout}
use Rattle.f2_bytes.specs.Support.{free_segments}
use Rattle.f2_view.specs.Mounted.{layout_in}
use Rattle.f2_view.proofs.TableReadings.{own_layout, own_head}
use Rattle.f2_reloc.specs.Emptying.{end_of}
use Rattle.f2_reloc.proofs.TargetsLow.{targets_among}
use Rattle.f2_reloc.proofs.emptying.targets_for.Goals as goal

pub returns-clause-targets : goal.returns-clause-targets
returns-clause-targets g c = λ image told of.
    let m = c.args.m.now in
    let range = c.args.range in
    let head = c.block.ensures.same ∙ c.head.ensures.value ∙ (λ i. (c.chosen.ensures i).head) ∙ own_head image m of in
    let l : c.layout-l.result ≡ layout image = c.layout-l.ensures.value ∙ own_layout image m of in
    let followed = c.in_ok-later.ensures.chain image told l head in
    let free : c.deref.result.now ≡ free_segments image = c.deref.ensures.value ∙ c.in_ok-segments.ensures.free image (c.in_ok-later.ensures.reads.told ∙ told) of followed in
    c.in_ok-targets.ensures.targets ∙ (λ i. move_targets (l i) (free i) range.start (end_of range) c.args.target c.args.down)

pub returns-clause-below : goal.returns-clause-below
returns-clause-below g c =
    let range = c.args.range in
    subst (All (λ segment. segment < (layout_in c.args.m.now).segments)) (sym c.in_ok-targets.ensures.targets)
    (targets_among (λ segment. segment < (layout_in c.args.m.now).segments) c.layout-l.result c.deref.result.now range.start (end_of range) c.args.target c.args.down
    (subst (All (λ segment. segment < (layout_in c.args.m.now).segments)) (sym c.deref.ensures.value) c.in_ok-segments.ensures.below))
