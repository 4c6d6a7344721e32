use Rattle.std.proofs.Common.{◌≡◌, ◌-◌}
use Rattle.f2_bytes.specs.Names.{tea}
use Rattle.f2_dent.proofs.hash.mix.Given as goal

-- the rounds that are left give the same
abbrev pub invariant-loop : goal.invariant-loop
invariant-loop l = tea (16 - l.counter) l.words l.s l.x l.y ≡ tea 16 l.fn.words 0 l.fn.x l.fn.y
