use Rattle.std.proofs.Common.{sym, arith}
use Rattle.f2_dent.proofs.Levels.{level_start-first, level_start-more}
use Rattle.f2_dent.proofs.buckets.start_of.Goals as goal

pub loop-before-init : goal.loop-before-init
loop-before-init c = record { same = sym (level_start-first c.args.dir_level); few = omega arith }

pub loop-before-preserved : goal.loop-before-preserved
loop-before-preserved c = record {
  same = omega (arith, c.loop-before.invariant.same, c.level_size-start.ensures.same, level_start-more c.loop-before.before c.args.dir_level);
  few = omega (arith, c.loop-before.invariant.few, c.level_size-start.ensures.few);
}
