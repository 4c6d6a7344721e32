use Rattle.std.proofs.Common.{take}
use Rattle.f2_change.specs.Heads.{PutsRows}
use Rattle.f2_change.proofs.heads.put_rows.Given as goal

-- the first rows are put
abbrev pub invariant-loop-w : goal.invariant-loop-w
invariant-loop-w l = PutsRows (take l.w-index l.rows) l.fn.b l.b
