use Rattle.std.proofs.Common.{◌≡◌, ◌+◌, ◌^◌, ◌≤◌, sym, ap, arith}
use Rattle.f2_dent.proofs.Levels.{bucket_count-low, bucket_count-high, few_buckets}
use Rattle.f2_items.proofs.directory_block.buckets.Goals as goal

pub returns-then-depth-lt31-clause-same : goal.returns-then-depth-lt31-clause-same
returns-then-depth-lt31-clause-same c =
    let low : 2 ^ (c.args.level + c.from.result) ≤ 2 ^ 30 = few_buckets (c.args.level + c.from.result) c.if-depth-lt31.true in
    let depth : 2 ^ (c.args.level + c.from.result) ≡ 2 ^ (c.args.level + c.args.dir_level) = ap (λ d. 2 ^ (c.args.level + d)) c.from.ensures in
    omega (arith, low, depth, bucket_count-low c.args.level c.args.dir_level (omega (arith, c.from.ensures, c.if-depth-lt31.true)))

pub returns-else-depth-lt31-clause-same : goal.returns-else-depth-lt31-clause-same
returns-else-depth-lt31-clause-same c = sym (bucket_count-high c.args.level c.args.dir_level (omega (arith, c.from.ensures, c.if-depth-lt31.false)))
