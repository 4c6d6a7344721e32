use Rattle.std.proofs.Common.{◌==◌, sym, ap, ◌∙◌}
use Rattle.std.specs.Int.{w8}
use Rattle.std.proofs.lemmas.Nat.Bits.{bit_at_set_same, bit_at_set_other, bit_at_clear_same, bit_at_clear_other}
use Rattle.f2_bytes.proofs.bits.with_bit.Goals as goal

pub returns-then-on-clause-bit : goal.returns-then-on-clause-bit
returns-then-on-clause-bit c = ap (λ b. b == 1) (bit_at_set_same w8 c.args.byte c.args.place c.requires) ∙ sym c.if-on.true

pub returns-then-on-clause-bits : goal.returns-then-on-clause-bits
returns-then-on-clause-bits c = λ i inside other. ap (λ b. b == 1) (bit_at_set_other w8 c.args.byte c.args.place c.requires i other)

pub returns-else-on-clause-bit : goal.returns-else-on-clause-bit
returns-else-on-clause-bit c = ap (λ b. b == 1) (bit_at_clear_same w8 c.args.byte c.args.place c.requires) ∙ sym c.if-on.false

pub returns-else-on-clause-bits : goal.returns-else-on-clause-bits
returns-else-on-clause-bits c = λ i inside other. ap (λ b. b == 1) (bit_at_clear_other w8 c.args.byte c.args.place c.requires i inside other)
