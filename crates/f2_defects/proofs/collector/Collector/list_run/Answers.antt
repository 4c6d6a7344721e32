use Rattle.std.proofs.Common.{◌∙◌, arith}
use Rattle.f2_defects.proofs.Runs.{runs_more}
use Rattle.f2_defects.proofs.collector.Collector.list_run.Goals as goal

pub loop-b-preserved : goal.loop-b-preserved
loop-b-preserved c = record {
  part = c.in_ok-same.ensures.part ∙ c.loop-b.invariant.part;
  runs = runs_more c.args.self.now c.loop-b.self c.same.new.self c.args.a c.args.from c.loop-b.b c.args.found c.args.wanted
      (omega arith) c.loop-b.invariant.part c.loop-b.invariant.runs c.in_ok-same.ensures.compares;
}
