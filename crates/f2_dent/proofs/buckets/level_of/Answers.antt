use Rattle.std.proofs.Common.{◌≡◌, ◌+◌, ◌≤◌, sym, below_more, arith}
use Rattle.f2_bytes.specs.Buckets.{level_start, level_of_block}
use Rattle.f2_dent.proofs.Levels.{level_start-first, level_start-more, few_levels, start_before, level-found, level-is}
use Rattle.f2_dent.proofs.buckets.level_of.Goals as goal

pub loop-next-init : goal.loop-next-init
loop-next-init c = record {
  level = omega arith;
  start = sym (level_start-first c.args.dir_level);
  next = omega (arith, c.level_size-next.ensures.same, level_start-first c.args.dir_level, level_start-more 0 c.args.dir_level);
  before = λ m none. absurd (omega (arith, none));
}

pub level_size-next-requires-in-loop-next : goal.level_size-next-requires-in-loop-next
level_size-next-requires-in-loop-next c =
    few_levels c.args.dir_level c.args.block c.loop-next.level c.loop-next.next c.requires c.loop-next.invariant.level c.loop-next.invariant.next (omega (arith, c.loop-next-test.true))

pub loop-next-preserved : goal.loop-next-preserved
loop-next-preserved c = record {
  level = few_levels c.args.dir_level c.args.block c.loop-next.level c.loop-next.next c.requires c.loop-next.invariant.level c.loop-next.invariant.next (omega (arith, c.loop-next-test.true));
  start = c.loop-next.invariant.next;
  next = omega (arith, c.loop-next.invariant.next, c.level_size-next-in-loop-next.ensures.same, level_start-more (c.loop-next.level + 1) c.args.dir_level);
  before = below_more (λ m. level_start (m + 1) c.args.dir_level ≤ c.args.block) c.loop-next.level c.loop-next.invariant.before (omega (arith, c.loop-next.invariant.next, c.loop-next-test.true));
}

pub overflow_sub-result : goal.overflow_sub-result
overflow_sub-result c =
    start_before c.args.dir_level c.args.block c.loop-next.level c.loop-next.start c.loop-next.invariant.start c.loop-next.invariant.before

pub returns : goal.returns
returns c =
    let found : level_of_block c.args.dir_level c.args.block ≡ c.loop-next.level =
    level-found c.args.dir_level c.args.block c.loop-next.level c.loop-next.invariant.level c.loop-next.invariant.before (omega (arith, c.loop-next.invariant.next, c.loop-next-test.false)) in
    λ i. (sym found i, level-is c.args.dir_level c.args.block c.loop-next.level c.loop-next.start c.blocks-2.result found c.loop-next.invariant.start c.blocks-2.ensures i)
