use Rattle.std.proofs.Common.{◌*◌, ◌+◌, ◌≡◌, ◌<◌, refl, ap, sym, ◌∙◌, arith, length}
use Rattle.std.specs.Prelude.{slice_index}
use Rattle.std.specs.Int.RustNames.{count_ones}
use Rattle.f2_bytes.specs.Bytes.{numbers_below, count_below}
use Rattle.f2_bytes.specs.Bits.{bit_lsb, bit_msb}
use Rattle.f2_bytes.proofs.SetBits.{low-more, high-more, count_below-le}
use Rattle.f2_bytes.proofs.bits.count_bits.Goals as goal

pub loop-byte-init : goal.loop-byte-init
unfolding numbers_below
loop-byte-init c = (refl, refl)

pub overflow_add-count : goal.overflow_add-count
overflow_add-count c =
    let i = c.loop-byte.byte-index in
    let byte : slice_index c.args.map.now i < 256 = let fits = c.type_inv.map i in omega arith in
    let so_far : c.loop-byte.count + count_ones (slice_index c.args.map.now i) ≡ count_below (8 * (i + 1)) (bit_lsb c.args.map.now) =
    ap (λ n. n + count_ones (slice_index c.args.map.now i)) c.loop-byte.invariant.1 ∙ sym (low-more c.args.map.now i byte) in
    omega (arith, so_far, count_below-le (8 * (i + 1)) (bit_lsb c.args.map.now))

pub loop-byte-preserved : goal.loop-byte-preserved
loop-byte-preserved c =
    let i = c.loop-byte.byte-index in
    let byte : slice_index c.args.map.now i < 256 = let fits = c.type_inv.map i in omega arith in (
      ap (λ n. n + count_ones (slice_index c.args.map.now i)) c.loop-byte.invariant.0 ∙ sym (high-more c.args.map.now i byte),
      ap (λ n. n + count_ones (slice_index c.args.map.now i)) c.loop-byte.invariant.1 ∙ sym (low-more c.args.map.now i byte),
    )

pub returns-clause-msb : goal.returns-clause-msb
returns-clause-msb c =
    let all : 8 * c.loop-byte.byte-index ≡ 8 * length c.args.map.now = omega arith in
    c.loop-byte.invariant.0 ∙ ap (λ n. count_below n (bit_msb c.args.map.now)) all

pub returns-clause-lsb : goal.returns-clause-lsb
returns-clause-lsb c =
    let all : 8 * c.loop-byte.byte-index ≡ 8 * length c.args.map.now = omega arith in
    c.loop-byte.invariant.1 ∙ ap (λ n. count_below n (bit_lsb c.args.map.now)) all
