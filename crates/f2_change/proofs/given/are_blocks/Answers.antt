use Rattle.std.proofs.Common.{ℕ, subst}
use Rattle.std.proofs.lemmas.List.Elements.{All-more}
use Rattle.f2_bytes.specs.Bytes.{Block, IsBlock}
use Rattle.f2_change.proofs.given.are_blocks.Goals as goal

pub loop-w-preserved : goal.loop-w-preserved
loop-w-preserved c =
    All-more (λ (w : ℕ × Block). IsBlock w.1) c.args.blocks.now c.loop-w.w-index c.w-item.result c.loop-w-test.true c.loop-w.invariant
    (subst (λ (w : ℕ × Block). IsBlock w.1) c.w-item.is c.bytes-bytes.ensures.block)
