-- The flags of a checkpoint are bits of a number.
use Rattle.std.proofs.Common.{◌≡◌, ◌==◌, ◌∙◌, ◌*◌, ◌/◌, ◌%◌, ◌^◌, ◌+◌, ◌-◌, ◌<◌, ℕ, zero, suc, sym, ap, ⊎_elim, arith}
use Rattle.std.proofs.lemmas.Bool.Decides.{eqb_tells}
use Rattle.std.proofs.lemmas.Nat.Bits.{and_high}
use Rattle.std.specs.Int.RustNames.{bit_and}
use Rattle.f2_bytes.specs.Bytes.{has_bit}

is_one : (b p : ℕ) → b < 2 → (b * suc p == suc p) ≡ (b == 1)
is_one zero p small = ⊎_elim (λ t. absurd (omega (arith, t.1))) (λ t. t.0) (eqb_tells (0 * suc p) (suc p))
is_one (suc zero) p small = ⊎_elim (λ t. t.0) (λ t. absurd (t.1 (omega arith))) (eqb_tells (1 * suc p) (suc p))
is_one (suc (suc b)) p small = absurd (omega (arith, small))

-- a number holds the flag of one bit exactly where that bit is set
pub flag_is_bit : (n k p : ℕ) → 2 ^ (1 + k) - 2 ^ k ≡ suc p → 2 ^ k ≡ suc p → (bit_and n (suc p) == suc p) ≡ has_bit n k
flag_is_bit n k p high low =
    let own : bit_and n (suc p) ≡ n / 2 ^ k % 2 * suc p = ap (bit_and n) (sym high) ∙ and_high n 1 k ∙ ap (λ m. n / 2 ^ k % 2 ^ 1 * m) low in
    ap (λ m. m == suc p) own ∙ is_one (n / 2 ^ k % 2) p (omega arith)
