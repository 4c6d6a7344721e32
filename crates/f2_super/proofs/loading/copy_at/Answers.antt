use Rattle.std.proofs.Common.{sym, arith}
use Rattle.f2_super.proofs.Repairs.{none_past}
use Rattle.f2_super.proofs.loading.copy_at.Goals as goal

pub returns-then-at-size-clause-copy : goal.returns-then-at-size-clause-copy
returns-then-at-size-clause-copy g c = λ image told.
    sym (none_past image c.args.at (omega (arith, (g.met.D.Disk.whole c.args.d.now image told).size, c.requires, c.if-at-size.true)))
