-- Words behind the last one that is not 0: the first of them tells what all of them do.
use Rattle.std.proofs.Common.{◌≡◌, ℕ, zero, suc, ◌+◌, ◌-◌, ◌<◌, ◌≤◌, ◌==◌, Bool, true, false, ◌||◌, refl, sym, ap, ◌∙◌, arith, ⊎_elim}
use Rattle.std.specs.Prelude.{min}
use Rattle.std.specs.List.{list_any}
use Rattle.std.proofs.lemmas.Bool.{cases_lt}
use Rattle.f2_bytes.specs.Bytes.{Block, word, numbers_below}
use Rattle.f2_free.proofs.NumbersBelow.{any-more}

twice : (x y : Bool) → (x || y || y) ≡ (x || y)
twice true y = refl
twice false true = refl
twice false false = refl

-- a test that says the same of all numbers from one on
module _ (p : ℕ → Bool) (used count : ℕ) (same : (j : ℕ) → used ≤ j → j < count → p j ≡ p used) where
  behind : (more : ℕ) → used + 1 + more ≤ count → list_any p (numbers_below (used + 1 + more)) ≡ list_any p (numbers_below (used + 1))
  behind zero low = ap (λ n. list_any p (numbers_below n)) (let e : used + 1 + 0 ≡ used + 1 = omega arith in e)
  behind (suc more) low =
      ap (λ n. list_any p (numbers_below n)) (let e : used + 1 + suc more ≡ used + 1 + more + 1 = omega arith in e)
      ∙ any-more p (used + 1 + more)
      ∙ (λ i. (behind more (omega (arith, low)) ∙ any-more p used) i || same (used + 1 + more) (omega arith) (omega (arith, low)) i)
      ∙ twice (list_any p (numbers_below used)) (p used)
      ∙ sym (any-more p used)

  any-used : (n : ℕ) → n ≡ min count (used + 1) → list_any p (numbers_below n) ≡ list_any p (numbers_below count)
  any-used n is =
      ⊎_elim
      (λ (low : used < count).
      ap (λ n. list_any p (numbers_below n)) (let e : n ≡ used + 1 = omega (arith, is, low) in e)
      ∙ sym (behind (count - (used + 1)) (omega (arith, low)))
      ∙ ap (λ n. list_any p (numbers_below n)) (let e : used + 1 + (count - (used + 1)) ≡ count = omega (arith, low) in e))
      (λ (all : count ≤ used). ap (λ n. list_any p (numbers_below n)) (let e : n ≡ count = omega (arith, is, all) in e))
      (cases_lt used count)

pub words_marked : (b : Block) (from count used n : ℕ) → ((j : ℕ) → used ≤ j → j < count → word b (from + j) ≡ 0) → n ≡ min count (used + 1)
    → (a : ℕ) → list_any (λ j. word b (from + j) == a) (numbers_below n) ≡ list_any (λ j. word b (from + j) == a) (numbers_below count)
words_marked b from count used n zeros is a =
    any-used (λ j. word b (from + j) == a) used count
    (λ j past low. ap (λ w. w == a) (zeros j past low ∙ sym (zeros used (omega arith) (omega (arith, past, low)))))
    n is
