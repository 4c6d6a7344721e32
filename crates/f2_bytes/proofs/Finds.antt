-- The first number of a range that passes a test.
use Rattle.std.proofs.Common.{◌≡◌, inl, inr, ℕ, zero, suc, ◌+◌, ◌≤◌, ◌<◌, Bool, true, false, cond, Option, Some, None, refl, ap, ◌∙◌, subst, arith}
use Rattle.std.specs.Prelude.{find}
use Rattle.std.specs.List.{range_with_len}
use Rattle.std.proofs.lemmas.Bool.{cases_lt}
use Rattle.f2_bytes.specs.Bytes.{numbers_below}

-- ---- what is found, from what each number says

pub find-some : (test : ℕ → Bool) (a n k : ℕ) → k < n → test (a + k) ≡ true → ((m : ℕ) → m < k → test (a + m) ≡ false) → find test (range_with_len a n) ≡ Some (a + k)
find-some test a zero k below here before = absurd (omega (arith, below))
find-some test a (suc n) zero below here before =
    let first : test a ≡ true = ap test (omega arith) ∙ here in
    ap (λ b. cond b (Some a) (find test (range_with_len (a + 1) n))) first ∙ ap (λ m. Some m) (omega arith)
find-some test a (suc n) (suc k) below here before =
    let first : test a ≡ false = ap test (omega arith) ∙ before 0 (omega arith) in
    ap (λ b. cond b (Some a) (find test (range_with_len (a + 1) n))) first
    ∙ find-some test (a + 1) n k (omega (arith, below)) (ap test (omega arith) ∙ here) (λ m lt. ap test (omega arith) ∙ before (suc m) (omega (arith, lt)))
    ∙ ap (λ m. Some m) (omega arith)

pub find-none : (test : ℕ → Bool) (a n : ℕ) → ((m : ℕ) → m < n → test (a + m) ≡ false) → find test (range_with_len a n) ≡ None
find-none test a zero none = refl
find-none test a (suc n) none =
    let first : test a ≡ false = ap test (omega arith) ∙ none 0 (omega arith) in
    ap (λ b. cond b (Some a) (find test (range_with_len (a + 1) n))) first
    ∙ find-none test (a + 1) n (λ m lt. ap test (omega arith) ∙ none (suc m) (omega (arith, lt)))

pub find-least : (test : ℕ → Bool) (n k : ℕ) → k < n → test k ≡ true → ((m : ℕ) → m < k → test m ≡ false) → find test (numbers_below n) ≡ Some k
unfolding numbers_below
find-least test n k below here before =
    find-some test 0 n k below (ap test (omega arith) ∙ here) (λ m lt. ap test (omega arith) ∙ before m lt) ∙ ap (λ m. Some m) (omega arith)

pub find-nothing : (test : ℕ → Bool) (n : ℕ) → ((m : ℕ) → m < n → test m ≡ false) → find test (numbers_below n) ≡ None
unfolding numbers_below
find-nothing test n none = find-none test 0 n (λ m lt. ap test (omega arith) ∙ none m lt)

-- ---- what each number says, from what is found

-- number m is the first from a on that passes
pub record IsFirst (test : ℕ → Bool) (a m : ℕ) : Type 0 where
  pub passes : test m ≡ true
  pub least : (k : ℕ) → a ≤ k → k < m → test k ≡ false

first_next : (test : ℕ → Bool) (a m : ℕ) → test a ≡ false → IsFirst test (a + 1) m → IsFirst test a m
first_next test a m fails first = record {
  passes = first.passes;
  least = λ k low high. elim (cases_lt a k) [
    | inl above ↦ first.least k (omega (arith, above)) high
    | inr not_above ↦ let same : a ≡ k = omega (arith, low, not_above) in subst (λ (j : ℕ). test j ≡ false) same fails
  ];
}

first_here : (test : ℕ → Bool) (a m : ℕ) (rest : Option ℕ) (b : Bool) → test a ≡ b → (rest ≡ Some m → IsFirst test (a + 1) m) → cond b (Some a) rest ≡ Some m → IsFirst test a m
first_here test a m rest true passes later is =
    let same : a ≡ m = cc in
    record { passes = subst (λ (j : ℕ). test j ≡ true) same passes; least = λ k low high. absurd (omega (arith, low, high, same)) }
first_here test a m rest false fails later is = first_next test a m fails (later is)

pub found_first : (test : ℕ → Bool) (a n m : ℕ) → find test (range_with_len a n) ≡ Some m → IsFirst test a m
found_first test a zero m is = cc
found_first test a (suc n) m is = first_here test a m (find test (range_with_len (a + 1) n)) (test a) refl (λ later. found_first test (a + 1) n m later) is

none_here : (test : ℕ → Bool) (a k : ℕ) (rest : Option ℕ) (b : Bool) → test a ≡ b → a ≤ k → (rest ≡ None → a + 1 ≤ k → test k ≡ false) → cond b (Some a) rest ≡ None → test k ≡ false
none_here test a k rest true passes low later is = cc
none_here test a k rest false fails low later is = elim (cases_lt a k) [
  | inl above ↦ later is (omega (arith, above))
  | inr not_above ↦ let same : a ≡ k = omega (arith, low, not_above) in subst (λ (j : ℕ). test j ≡ false) same fails
]

pub none_passes : (test : ℕ → Bool) (a n : ℕ) → find test (range_with_len a n) ≡ None → (k : ℕ) → a ≤ k → k < a + n → test k ≡ false
none_passes test a zero is k low high = absurd (omega (arith, low, high))
none_passes test a (suc n) is k low high = none_here test a k (find test (range_with_len (a + 1) n)) (test a) refl low (λ later above. none_passes test (a + 1) n later k above (omega (arith, high))) is
