use Rattle.std.proofs.Common.{◌⊎◌, ◌<◌, ◌≤◌, ◌+◌, inl, inr, sym, arith}
use Rattle.f2_defects.proofs.Runs.{length-run_apart, length-run_within}
use Rattle.f2_defects.proofs.collector.failing.Goals as goal
use Rattle.f2_defects.proofs.collector.failing.Goals.{else-first-found-via-then-first-found+else-found-first, else-first-found-via-else-first-found}

pub returns-then-found-first : goal.returns-then-found-first
returns-then-found-first c = λ part a from.
    let one = length-run_within part a c.args.found from c.args.n c.args.first c.if-first-found.true c.if-found-first.true in omega (arith, one)

pub returns-else-first-found : goal.returns-else-first-found
returns-else-first-found c = λ part a from.
    let apart : (c.args.found < c.args.first) ⊎ (c.args.first + c.args.n ≤ c.args.found) =
    elim c.else-first-found.branch [
      | else-first-found-via-then-first-found+else-found-first w ↦ inr w.if-found-first.false
      | else-first-found-via-else-first-found w ↦ inl w.if-first-found.false
    ] in
    sym (length-run_apart part a c.args.found from c.args.n c.args.first apart)
