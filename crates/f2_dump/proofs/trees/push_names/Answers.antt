use Rattle.std.proofs.Common.{◌++◌, ◌∙◌, ◌-◌, List, ap, arith}
use Rattle.f2_dump.specs.Stacks.{Pending}
use Rattle.f2_dump.proofs.StackLines.{pushed_all}
use Rattle.f2_dump.proofs.trees.push_names.Goals as goal

pub returns : goal.returns
returns c = record {
  names = c.loop-k.invariant.names ∙ ap (λ (l : List Pending). c.args.stack.now.items ++ l)
      (pushed_all c.args.level c.args.levels (c.args.levels - 1) c.loop-k.k c.args.names.now (omega arith) (omega arith));
}
