use Rattle.std.proofs.Common.{refl, ◌∙◌}
use Rattle.f2_change.proofs.TableChanges.{nat-none, nat-more}
use Rattle.f2_change.proofs.tables.change_nat.Goals as goal

pub loop-w-init : goal.loop-w-init
loop-w-init g c = record { changes = nat-none c.args.entries.now c.args.nat.now; disk = refl }

pub loop-w-preserved : goal.loop-w-preserved
loop-w-preserved g c = record {
  changes = nat-more _ c.args.entries.now c.loop-w.w-index c.args.nat.now c.loop-w.nat c.set.new.self c.loop-w-test.true c.loop-w.invariant.changes c.in_ok-set.ensures.done;
  disk = c.set.ensures.disk ∙ c.loop-w.invariant.disk;
}
