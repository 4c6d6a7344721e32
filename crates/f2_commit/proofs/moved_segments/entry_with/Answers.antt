use Rattle.std.proofs.Common.{◌*◌, length, arith}
use Rattle.f2_bytes.specs.Bits.{bit_msb}
use Rattle.f2_bytes.proofs.SetBits.{count_below-le}
use Rattle.f2_commit.proofs.moved_segments.entry_with.Goals as goal

pub overflow_cast-result : goal.overflow_cast-result
overflow_cast-result c =
    let few = count_below-le (8 * length c.args.map.now) (bit_msb c.args.map.now) in
    omega (arith, few, c.count_bits.ensures.msb)

pub returns-clause-fits : goal.returns-clause-fits
returns-clause-fits c =
    let few = count_below-le (8 * length c.args.map.now) (bit_msb c.args.map.now) in
    record { kind = c.requires.kind; count = omega (arith, few, c.count_bits.ensures.msb) }
