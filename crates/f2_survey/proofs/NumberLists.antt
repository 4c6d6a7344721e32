-- The numbers below a limit as a list, one by one.
use Rattle.std.proofs.Common.{◌≡◌, ℕ, zero, suc, ◌+◌, ◌<◌, [], ◌∷◌, ◌++◌, length, get_or, refl, ap, ◌∙◌, arith}
use Rattle.std.specs.List.{range_with_len}
use Rattle.std.proofs.lemmas.List.FromFn.{length-range_with_len, get_or-range_with_len}
use Rattle.f2_bytes.specs.Bytes.{numbers_below}

pub range-more : (a n : ℕ) → range_with_len a (suc n) ≡ range_with_len a n ++ (a + n) ∷ []
range-more a zero = ap (λ x. x ∷ []) (omega arith)
range-more a (suc n) = ap (λ xs. a ∷ xs) (range-more (a + 1) n ∙ ap (λ x. range_with_len (a + 1) n ++ x ∷ []) (omega arith))

-- none below 0, and one more
pub numbers-none : numbers_below 0 ≡ []
unfolding numbers_below
numbers-none = refl

pub numbers-suc : (n : ℕ) → numbers_below (suc n) ≡ numbers_below n ++ n ∷ []
unfolding numbers_below
numbers-suc n = range-more 0 n ∙ ap (λ x. range_with_len 0 n ++ x ∷ []) (omega arith)

pub numbers-more : (n : ℕ) → numbers_below (n + 1) ≡ numbers_below n ++ n ∷ []
numbers-more n = ap numbers_below (omega arith) ∙ numbers-suc n

pub length-numbers : (n : ℕ) → length (numbers_below n) ≡ n
unfolding numbers_below
length-numbers n = length-range_with_len 0 n

pub get_or-numbers : (n k d : ℕ) → k < n → get_or (numbers_below n) k d ≡ k
unfolding numbers_below
get_or-numbers n k d h = get_or-range_with_len 0 n k d h ∙ omega arith
