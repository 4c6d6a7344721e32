use Rattle.std.proofs.Common.{◌≡◌, ◌<◌, ◌≤◌, ℕ, true, All, arith, rules, subst, slice_index_or}
use Rattle.std.proofs.lemmas.List.{take_all}
use Rattle.std.proofs.lemmas.List.Elements.{All-more}
use Rattle.f2_bytes.specs.Superblock.{is_main}
use Rattle.f2_disk.specs.declared.block.Block.{Block}
use Rattle.f2_change_calls.proofs.shifts.check_main.Goals as goal

pub loop-address-preserved : goal.loop-address-preserved
loop-address-preserved c =
    All-more (λ (a : ℕ). is_main c.args.l.now a ≡ true) c.args.addresses.now c.loop-address.address-index 0 c.loop-address-test.true c.loop-address.invariant
    (let e : is_main c.args.l.now (slice_index_or c.args.addresses.now c.loop-address.address-index 0) ≡ true = search rules in e)

pub returns : goal.returns
returns c = record { main = subst (All (λ (a : ℕ). is_main c.args.l.now a ≡ true)) (take_all c.loop-address.address-index c.args.addresses.now (omega (arith, c.loop-address-test.false))) c.loop-address.invariant }
