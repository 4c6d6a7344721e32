-- Maps of the blocks of a segment whose bits are set or cleared one by one.
use Rattle.std.proofs.Common.{◌≡◌, ◌≢◌, ℕ, ◌+◌, ◌-◌, ◌/◌, ◌%◌, ◌^◌, ◌<◌, true, ◌==◌, nat_lt, List, replicate, sym, ap, ◌∙◌, ⊎_elim, arith}
use Rattle.std.proofs.lemmas.Bool.{lt-ltb, ltb-true, cases_eq, false_from_ne_true}
use Rattle.f2_bytes.specs.Bits.{bit_msb, ChangesBit}
use Rattle.f2_bytes.specs.Bytes.{has_bit}
use Rattle.f2_gather.proofs.Ascending.{bools_same}
use Rattle.f2_change.proofs.LogBlocks.{zeros_at}

zero_over : (d : ℕ) → 0 / d ≡ 0
zero_over d = omega arith

-- no block is marked by zeros
pub zero_bits : (k : ℕ) → bit_msb (replicate 64 0) k ≡ nat_lt k 0
zero_bits k =
    ap (λ n. has_bit n (7 - k % 8)) (zeros_at 64 (k / 8)) ∙ ap (λ n. n % 2 == 1) (zero_over (2 ^ (7 - k % 8)))
    ∙ sym (false_from_ne_true (nat_lt k 0) (λ below. let less = ltb-true k 0 below in omega (arith, less)))

-- one more of the first blocks is marked
pub one_more : (old new : List ℕ) (at : ℕ) → ChangesBit bit_msb old new at true → ((k : ℕ) → k < 512 → bit_msb old k ≡ nat_lt k at) → (k : ℕ) → k < 512 → bit_msb new k ≡ nat_lt k (at + 1)
one_more old new at changed so_far k low = ⊎_elim here elsewhere (cases_eq k at)
  where
    here : k ≡ at → bit_msb new k ≡ nat_lt k (at + 1)
    here same = ap (bit_msb new) same ∙ changed.bit ∙ sym (lt-ltb k (at + 1) (omega (arith, same)))

    elsewhere : k ≢ at → bit_msb new k ≡ nat_lt k (at + 1)
    elsewhere other =
        changed.bits k other ∙ so_far k low
        ∙ bools_same (nat_lt k at) (nat_lt k (at + 1))
        (λ below. let less = ltb-true k at below in lt-ltb k (at + 1) (omega (arith, less)))
        (λ below. let less = ltb-true k (at + 1) below in lt-ltb k at (omega (arith, less, other)))
