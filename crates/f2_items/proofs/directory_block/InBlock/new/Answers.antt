use Rattle.std.proofs.Common.{◌≡◌, ℕ, ap, arith}
use Rattle.f2_bytes.specs.Buckets.{level_of_block}
use Rattle.f2_dent.proofs.Finish.{level_small}
use Rattle.f2_items.proofs.directory_block.InBlock.new.Goals as goal

pub invariant_of-result : goal.invariant_of-result
invariant_of-result c =
    let level : c.level_of-level.result.0 ≡ level_of_block c.args.dir_level c.args.number = ap (λ (r : ℕ × ℕ). r.0) c.level_of-level.ensures in
    record { low = omega (arith, level, level_small c.args.dir_level c.args.number); small = c.requires }
