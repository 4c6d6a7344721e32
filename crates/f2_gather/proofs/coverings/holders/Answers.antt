use Rattle.std.proofs.Common.{◌≡◌, length, ap, ◌∙◌, arith}
use Rattle.std.proofs.lemmas.List.{take_all, length-map}
use Rattle.f2_bytes.specs.Defragment.{is_among}
use Rattle.f2_gather.specs.declared.gathering.MovedBlock.{MovedBlock}
use Rattle.f2_gather.specs.Gathering.{holders_of}
use Rattle.f2_gather.proofs.GatheredSteps.{maps}
use Rattle.f2_gather.proofs.coverings.holders.Goals as goal

pub loop-b-preserved : goal.loop-b-preserved
loop-b-preserved c =
    c.in_ok-push.ensures.items ∙ maps (λ (b : MovedBlock). b.nid) c.args.blocks.now c.loop-b.b-index _ c.loop-b-test.true c.loop-b.nids.items c.loop-b.invariant

-- the list after the loop
whole : (c : goal.After-put_in_order) → c.loop-b.nids.items ≡ holders_of c.args.blocks.now
whole c = c.loop-b.invariant ∙ ap holders_of (take_all c.loop-b.b-index c.args.blocks.now (omega arith))

pub returns-clause-same : goal.returns-clause-same
returns-clause-same c = λ n. c.put_in_order.ensures.same n ∙ ap (λ l. is_among l n) (whole c)

pub returns-clause-few : goal.returns-clause-few
returns-clause-few c =
    let fewer = c.put_in_order.ensures.few in
    let long : length c.loop-b.nids.items ≡ length c.args.blocks.now = ap length (whole c) ∙ length-map c.args.blocks.now (λ (b : MovedBlock). b.nid) in
    omega (arith, fewer, long)
