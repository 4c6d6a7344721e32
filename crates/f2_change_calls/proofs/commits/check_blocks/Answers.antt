use Rattle.std.proofs.Common.{◌≡◌, ◌<◌, ◌≤◌, ℕ, true, All, arith, rules, subst, slice_index_or}
use Rattle.std.proofs.lemmas.List.{take_all}
use Rattle.std.proofs.lemmas.List.Elements.{All-more}
use Rattle.f2_bytes.specs.Superblock.{is_main}
use Rattle.f2_disk.specs.declared.block.Block.{Block}
use Rattle.f2_change_calls.proofs.commits.check_blocks.Goals as goal

pub loop-w-preserved : goal.loop-w-preserved
loop-w-preserved c =
    All-more (λ (w : ℕ × Block). is_main c.args.l.now w.0 ≡ true) c.args.blocks.now c.loop-w.w-index c.w-item.result c.loop-w-test.true c.loop-w.invariant
    (subst (λ (w : ℕ × Block). is_main c.args.l.now w.0 ≡ true) c.w-item.is (let e : is_main c.args.l.now c.w-item.result.0 ≡ true = search rules in e))

pub returns : goal.returns
returns c = subst (All (λ (w : ℕ × Block). is_main c.args.l.now w.0 ≡ true)) (take_all c.loop-w.w-index c.args.blocks.now (omega (arith, c.loop-w-test.false))) c.loop-w.invariant
