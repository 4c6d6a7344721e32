use Rattle.std.proofs.Common.{length, sym, ap, ◌∙◌, subst}
use Rattle.f2_bytes.specs.Check.{part_defects, same, single}
use Rattle.f2_defects.specs.Collected.{Collects}
use Rattle.f2_areas.proofs.CheckpointParts.{chain_part, length-chain}
use Rattle.f2_pack.specs.Held.{Held}
use Rattle.f2_roll.specs.Chain.{Followed}
use Rattle.f2_view.proofs.TableReadings.{own_layout, own_head}
use Rattle.f2_areas.proofs.rule_2_checkpoint.later_defects.Goals as goal

pub returns-clause-finds : goal.returns-clause-finds
returns-clause-finds g c = λ image told of.
    let m = c.args.m.now in
    let head = c.block.ensures.same ∙ c.head.ensures.value ∙ ap (λ (h : Held). h.head) c.chosen.ensures ∙ own_head image m of in
    let followed = c.in_ok-later.ensures.chain image told (c.layout-l.ensures.value ∙ own_layout image m of) head in
    let count = ap length (c.nodes.ensures ∙ ap (λ (f : Followed). f.nodes) followed) ∙ length-chain image in
    subst (Collects c.in_ok-single_defects.field-0) (ap (λ n. part_defects (single 2 (same n 0))) count ∙ sym (chain_part image)) c.in_ok-single_defects.ensures
