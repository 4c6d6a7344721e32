-- Words of zero bytes.
use Rattle.std.proofs.Common.{◌≡◌, ℕ, zero, suc, ◌+◌, ◌-◌, ◌*◌, ◌<◌, ◌≤◌, List, Bool, true, drop, refl, sym, ap, ◌∙◌, arith, get_or-drop}
use Rattle.std.specs.Prelude.{nat_eq, replicate, slice_index, slice_range}
use Rattle.std.specs.Cmp.Lexicographic.{pointwise}
use Rattle.std.proofs.lemmas.Bool.Decides.{Decides-eqb}
use Rattle.std.proofs.lemmas.List.{get_or-take, get_or-replicate}
use Rattle.std.proofs.lemmas.Slice.Eq.{slice_eq-Decides}
use Rattle.f2_bytes.specs.Bytes.{number_at, word}

zero_number : (b : List ℕ) (i n : ℕ) → ((k : ℕ) → i ≤ k → k < i + n → slice_index b k ≡ 0) → number_at b i n ≡ 0
unfolding number_at
zero_number b i zero none = refl
zero_number b i (suc n) none =
    let rest = zero_number b (suc i) n (λ k low high. none k (omega (arith, low)) (omega (arith, high))) in
    let first = none i (omega arith) (omega arith) in
    omega (arith, first, rest)

-- 256 bytes that are equal to as many zeros
zero_byte : (b : List ℕ) (at : ℕ) → slice_range b (4 * at) (4 * at + 256) ≡ replicate 256 0 → (k : ℕ) → 4 * at ≤ k → k < 4 * at + 256 → slice_index b k ≡ 0
zero_byte b at same k low high =
    let i = k - 4 * at in
    ap (λ n. slice_index b n) (let e : k ≡ 4 * at + i = omega (arith, low) in e)
    ∙ sym (get_or-drop (4 * at) b i 0)
    ∙ sym (get_or-take (4 * at + 256 - 4 * at) (drop (4 * at) b) i 0 (omega (arith, low, high)))
    ∙ ap (λ (l : List ℕ). slice_index l i) same
    ∙ get_or-replicate {A = ℕ} 256 i 0 0 (omega (arith, low, high))

pub zero_run : (b : List ℕ) (at : ℕ) (equal : Bool) → equal ≡ pointwise nat_eq (slice_range b (4 * at) (4 * at + 256)) (replicate 256 0) → equal ≡ true → (j : ℕ) → at ≤ j → j < at + 64 → word b j ≡ 0
zero_run b at equal is holds j low high =
    zero_number b (4 * j) 4 (λ k above below.
    zero_byte b at ((slice_eq-Decides Decides-eqb _ _ equal is).0 holds) k (omega (arith, low, above)) (omega (arith, high, below)))
