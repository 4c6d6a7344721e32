-- Lists of numbers that rise, each below the next.
use Rattle.std.proofs.Common.{◌≡◌, ℕ, suc, ◌+◌, ◌-◌, ◌≤◌, ◌<◌, List, ◌∷◌, ◌++◌, length, get_or, sym, ap, ◌∙◌, ⊎_elim, arith}
use Rattle.std.specs.List.Sorted.{IsStrictlyIncreasing}
use Rattle.std.proofs.lemmas.Bool.{cases_lt}
use Rattle.std.proofs.lemmas.List.{length-append}
use Rattle.std.proofs.lemmas.List.Kept.{AllPairs-from_increasing}
use Rattle.std.proofs.Math.ListN.{get_or-append}
use Rattle.std.proofs.Math.Seq.{get_or-append_right}

module _ (before : List ℕ) (x : ℕ) (later : List ℕ) where
  -- an element before it, or behind it, in the list with it
  early : (n : ℕ) → n < length before → get_or (before ++ later) n 0 ≡ get_or (before ++ x ∷ later) n 0
  early n low = get_or-append before later 0 n low ∙ sym (get_or-append before (x ∷ later) 0 n low)

  late : (n : ℕ) → length before ≤ n → get_or (before ++ later) n 0 ≡ get_or (before ++ x ∷ later) (n + 1) 0
  late n high =
      let next : n + 1 - length before ≡ suc (n - length before) = omega (arith, high) in
      get_or-append_right before later n 0 high
      ∙ sym (get_or-append_right before (x ∷ later) (n + 1) 0 (omega (arith, high)) ∙ ap (λ m. get_or (x ∷ later) m 0) next)

  long : length (before ++ x ∷ later) ≡ length (before ++ later) + 1
  long = let a = length-append before (x ∷ later) in let b = length-append before later in omega (arith, a, b)

  -- they rise without it, too
  pub without_one : IsStrictlyIncreasing (before ++ x ∷ later) → IsStrictlyIncreasing (before ++ later)
  without_one rises = λ k within.
      let pairs = AllPairs-from_increasing (before ++ x ∷ later) rises in
      ⊎_elim
      (λ low. let below = pairs k (k + 1) 0 (omega arith) (omega (arith, within, long)) in let a = early k (omega (arith, low)) in let b = early (k + 1) low in omega (arith, below, a, b))
      (λ high.
      ⊎_elim
      (λ last. let below = pairs k (k + 1 + 1) 0 (omega arith) (omega (arith, within, long)) in let a = early k last in let b = late (k + 1) high in omega (arith, below, a, b))
      (λ past. let below = pairs (k + 1) (k + 1 + 1) 0 (omega arith) (omega (arith, within, long)) in let a = late k past in let b = late (k + 1) high in omega (arith, below, a, b))
      (cases_lt k (length before)))
      (cases_lt (k + 1) (length before))
