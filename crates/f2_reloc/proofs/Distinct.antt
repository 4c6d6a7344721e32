-- Lists of different numbers.
use Rattle.std.proofs.Common.{◌≡◌, ℕ, ◌+◌, ◌-◌, ◌<◌, List, reverse, length, get_or, All, sym, subst, ◌∙◌, ⊎_elim, arith}
use Rattle.std.specs.List.Sorted.{IsStrictlyIncreasing}
use Rattle.std.proofs.lemmas.Bool.{cases_order}
use Rattle.std.proofs.lemmas.List.{length-reverse, get_or-reverse}
use Rattle.std.proofs.lemmas.List.Elements.{All-from_get_or}
use Rattle.std.proofs.lemmas.List.Kept.{AllPairs-from_increasing}
use Rattle.f2_bytes.specs.Bytes.{numbers_below}
use Rattle.f2_bytes.proofs.Below.{length-numbers_below, get_or-numbers_below}

abbrev pub AreDifferent : List ℕ → Type 0
AreDifferent xs = (i j : ℕ) → i < length xs → j < length xs → get_or xs i 0 ≡ get_or xs j 0 → i ≡ j

pub different_from_rising : (xs : List ℕ) → IsStrictlyIncreasing xs → AreDifferent xs
different_from_rising xs rises i j low_i low_j same =
    let pairs = AllPairs-from_increasing xs rises in
    ⊎_elim (λ is. is)
    (λ apart. absurd (⊎_elim
    (λ low. let below = pairs i j 0 low low_j in omega (arith, below, same))
    (λ high. let below = pairs j i 0 high low_i in omega (arith, below, same)) apart))
    (cases_order i j)

pub different-reverse : (xs : List ℕ) → AreDifferent xs → AreDifferent (reverse xs)
different-reverse xs different i j low_i low_j same =
    let long = length-reverse xs in
    let n = length xs in
    let before : n - 1 - i ≡ n - 1 - j = different (n - 1 - i) (n - 1 - j) (omega (arith, low_i, long)) (omega (arith, low_j, long))
    (sym (get_or-reverse xs i 0 (omega (arith, low_i, long))) ∙ same ∙ get_or-reverse xs j 0 (omega (arith, low_j, long))) in
    omega (arith, before, low_i, low_j, long)

pub All-reverse : (P : ℕ → Type 0) (xs : List ℕ) → All P xs → All P (reverse xs)
All-reverse P xs all =
    All-from_get_or P (reverse xs) 0 (λ i low.
    let long = length-reverse xs in
    subst P (sym (get_or-reverse xs i 0 (omega (arith, low, long)))) (all (length xs - 1 - i) 0 (omega (arith, low, long))))

pub numbers_rise : (n : ℕ) → IsStrictlyIncreasing (numbers_below n)
numbers_rise n k low =
    let high : k + 1 < n = rw length-numbers_below at low in
    let a = get_or-numbers_below n k 0 (omega (arith, high)) in
    let b = get_or-numbers_below n (k + 1) 0 high in
    omega (arith, a, b)
