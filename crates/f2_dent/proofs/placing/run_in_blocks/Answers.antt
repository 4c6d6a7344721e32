use Rattle.std.proofs.Common.{◌-◌, refl, ◌∙◌, arith}
use Rattle.f2_dent.specs.Places.{block_in}
use Rattle.f2_dent.proofs.Places.{blocks_none, blocks_found, blocks_next}
use Rattle.f2_dent.proofs.placing.run_in_blocks.Goals as goal

pub loop-block-init : goal.loop-block-init
loop-block-init c = record { same = λ k. refl; none = blocks_none (block_in c.args.pages.now) c.args.slots c.args.first (c.args.first - c.args.first) (omega arith) }

pub returns-in-Some-clause-first : goal.returns-in-Some-clause-first
returns-in-Some-clause-first c =
    let l = c.loop-block in
    blocks_found (block_in c.args.pages.now) (block_in l.pages) c.args.slots c.args.first l.block l.invariant.same l.auto.block l.invariant.none c.args.blocks c.in-Some.slot c.loop-block-test.true c.in-Some.ensures.first

pub loop-block-preserved : goal.loop-block-preserved
loop-block-preserved c =
    let l = c.loop-block in
    record {
      same = λ k. c.run_in_block.ensures.same k ∙ l.invariant.same k;
      none = blocks_next (block_in c.args.pages.now) (block_in l.pages) c.args.slots c.args.first l.block l.invariant.same l.auto.block l.invariant.none c.in-None.ensures.first;
    }
