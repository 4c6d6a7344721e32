use Rattle.std.proofs.Common.{◌++◌, ap, ◌∙◌, arith}
use Rattle.std.proofs.lemmas.List.{take_all}
use Rattle.f2_bytes.specs.Defragment.{is_among}
use Rattle.f2_gather.specs.declared.gathering.MovedBlock.{MovedBlock}
use Rattle.f2_gather.specs.Gathering.{addresses_of}
use Rattle.f2_commit.specs.Shifting.{node_addresses}
use Rattle.f2_gather.proofs.GatheredSteps.{maps}
use Rattle.f2_commit.proofs.LeftAddresses.{all_left}
use Rattle.f2_commit.proofs.shifting.left_addresses.Goals as goal

pub loop-b-preserved : goal.loop-b-preserved
loop-b-preserved c =
    c.in_ok-push.ensures.items ∙ maps (λ (b : MovedBlock). b.address) c.args.moved.now c.loop-b.b-index _ c.loop-b-test.true c.loop-b.left.items c.loop-b.invariant

pub returns-clause-main : goal.returns-clause-main
returns-clause-main c = λ l mains node_mains.
    all_left l c.args.moved.now c.args.nodes.now c.put_in_order.new.numbers.items
    (λ a.
    c.put_in_order.ensures.same a
    ∙ ap (λ xs. is_among xs a) (c.loop-entry.invariant ∙ ap (λ xs. addresses_of c.args.moved.now ++ node_addresses xs) (take_all c.loop-entry.entry-index c.args.nodes.now (omega arith)))) mains node_mains
