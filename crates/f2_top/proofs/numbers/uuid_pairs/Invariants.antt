use Rattle.std.proofs.Common.{◌≡◌, ◌++◌, ◌-◌, take, length, option_map}
use Rattle.f2_top.specs.Numbers.{uuid_bytes}
use Rattle.f2_top.proofs.numbers.uuid_pairs.Given as goal

abbrev pub invariant-loop-i : goal.invariant-loop-i
invariant-loop-i l = (length l.id ≡ 16) × (uuid_bytes l.fn.text 0 16 ≡ option_map (λ bs. take l.i l.id ++ bs) (uuid_bytes l.fn.text l.i (16 - l.i)))
