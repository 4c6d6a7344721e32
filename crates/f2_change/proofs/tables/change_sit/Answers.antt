use Rattle.std.proofs.Common.{refl, ◌∙◌}
use Rattle.f2_change.proofs.TableChanges.{sit-none, sit-more}
use Rattle.f2_change.proofs.tables.change_sit.Goals as goal

pub loop-w-init : goal.loop-w-init
loop-w-init g c = record { changes = sit-none c.args.entries.now c.args.sit.now; disk = refl }

pub loop-w-preserved : goal.loop-w-preserved
loop-w-preserved g c = record {
  changes = sit-more _ c.args.entries.now c.loop-w.w-index c.args.sit.now c.loop-w.sit c.set.new.self c.loop-w-test.true c.loop-w.invariant.changes c.in_ok-set.ensures.done;
  disk = c.set.ensures.disk ∙ c.loop-w.invariant.disk;
}
