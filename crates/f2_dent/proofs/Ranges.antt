-- Tests over the numbers of a range, number by number.
use Rattle.std.proofs.Common.{◌≡◌, inl, inr, ℕ, zero, suc, ◌+◌, ◌≤◌, ◌<◌, Bool, true, false, refl, ap, ◌∙◌, arith}
use Rattle.std.specs.List.{list_any, range_with_len}
use Rattle.std.proofs.lemmas.Bool.{or_left, or_right, or_from, or_cases, cases_order}

pub range_none : (test : ℕ → Bool) (a n : ℕ) → ((t : ℕ) → a ≤ t → t < a + n → test t ≡ false) → list_any test (range_with_len a n) ≡ false
range_none test a zero none = refl
range_none test a (suc n) none = or_from _ _ (none a (omega arith) (omega arith)) (range_none test (a + 1) n (λ t low high. none t (omega (arith, low)) (omega (arith, high))))

pub range_some : (test : ℕ → Bool) (a n t : ℕ) → a ≤ t → t < a + n → test t ≡ true → list_any test (range_with_len a n) ≡ true
range_some test a zero t low high is = absurd (omega (arith, low, high))
range_some test a (suc n) t low high is = elim (cases_order a t) [
  | inl same ↦ or_left _ _ (ap test same ∙ is)
  | inr (inl above) ↦ or_right _ _ (range_some test (a + 1) n t (omega (arith, above)) (omega (arith, high)) is)
  | inr (inr below) ↦ absurd (omega (arith, low, below))
]

pub range_found : (test : ℕ → Bool) (a n : ℕ) → list_any test (range_with_len a n) ≡ true → (t : ℕ) × (a ≤ t) × (t < a + n) × (test t ≡ true)
range_found test a zero found = cc
range_found test a (suc n) found = elim (or_cases _ _ found) [
  | inl here ↦ (a, omega arith, omega arith, here)
  | inr later ↦
      let rest = range_found test (a + 1) n later in
      (rest.0, omega (arith, rest.1), omega (arith, rest.2), rest.3)
]
