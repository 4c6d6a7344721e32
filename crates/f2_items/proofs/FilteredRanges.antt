-- What functions give in a range of numbers.
use Rattle.std.proofs.Common.{◌≡◌, ℕ, zero, suc, ◌+◌, ◌<◌, ◌≤◌, List, [], Option, None, refl, arith}
use Rattle.std.specs.Prelude.{filter_map}
use Rattle.std.specs.List.{cons_option, range_with_len}

-- what two functions give that agree in a range
pub filter_map-range : {A : Type 0} (f g : ℕ → Option A) (a n : ℕ) → ((k : ℕ) → a ≤ k → k < a + n → f k ≡ g k) → filter_map f (range_with_len a n) ≡ filter_map g (range_with_len a n)
filter_map-range f g a zero same = refl
filter_map-range f g a (suc n) same =
    λ i. cons_option (same a (omega arith) (omega arith) i) (filter_map-range f g (a + 1) n (λ k low high. same k (omega (arith, low)) (omega (arith, high))) i)

pub filter_map-nothing : {A : Type 0} (f : ℕ → Option A) (a n : ℕ) → ((k : ℕ) → a ≤ k → k < a + n → f k ≡ None) → filter_map f (range_with_len a n) ≡ []
filter_map-nothing f a zero none = refl
filter_map-nothing f a (suc n) none =
    λ i. cons_option (none a (omega arith) (omega arith) i) (filter_map-nothing f (a + 1) n (λ k low high. none k (omega (arith, low)) (omega (arith, high))) i)
