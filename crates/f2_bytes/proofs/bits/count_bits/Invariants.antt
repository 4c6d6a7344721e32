use Rattle.std.proofs.Common.{◌≡◌, ◌*◌}
use Rattle.f2_bytes.specs.Bytes.{count_below}
use Rattle.f2_bytes.specs.Bits.{bit_lsb, bit_msb}
use Rattle.f2_bytes.proofs.bits.count_bits.Given as goal

-- the bits of the bytes so far are counted, in either order
abbrev pub invariant-loop-byte : goal.invariant-loop-byte
invariant-loop-byte l =
    (l.count ≡ count_below (8 * l.byte-index) (bit_msb l.map)) × (l.count ≡ count_below (8 * l.byte-index) (bit_lsb l.map))
