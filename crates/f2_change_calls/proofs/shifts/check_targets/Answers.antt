use Rattle.std.proofs.Common.{◌≡◌, ◌<◌, ◌≤◌, ℕ, true, All, arith, rules, subst, slice_index_or}
use Rattle.std.proofs.lemmas.List.{take_all}
use Rattle.std.proofs.lemmas.List.Elements.{All-more}
use Rattle.f2_bytes.specs.Superblock.{is_main}
use Rattle.f2_disk.specs.declared.block.Block.{Block}
use Rattle.f2_change_calls.proofs.shifts.check_targets.Goals as goal

pub loop-target-preserved : goal.loop-target-preserved
loop-target-preserved c =
    All-more (λ (s : ℕ). s < c.args.l.now.segments) c.args.targets.now c.loop-target.target-index 0 c.loop-target-test.true c.loop-target.invariant
    (let e : slice_index_or c.args.targets.now c.loop-target.target-index 0 < c.args.l.now.segments = omega (arith, c.if-target-l.false) in e)

pub returns : goal.returns
returns c = subst (All (λ (s : ℕ). s < c.args.l.now.segments)) (take_all c.loop-target.target-index c.args.targets.now (omega (arith, c.loop-target-test.false))) c.loop-target.invariant
