use Rattle.std.proofs.Common.{◌≡◌, ℕ, ◌+◌, ◌*◌, ◌<◌, get_or}
use Rattle.f2_bytes.specs.Bytes.{number_at}
use Rattle.f2_super.specs.Filled.{Keeps}
use Rattle.f2_super.proofs.making.put_label.Given as goal

abbrev pub invariant-loop-i : goal.invariant-loop-i
invariant-loop-i l = record { units : (k : ℕ) → k < l.i → number_at l.c (124 + 2 * k) 2 ≡ get_or l.label k 0; others : Keeps 124 (2 * l.i) l.fn.c l.c }
